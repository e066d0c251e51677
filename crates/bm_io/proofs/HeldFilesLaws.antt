-- The list of files in memory, and what contracts see of it.
use Rattle.std.proofs.Common.{◌≡◌, ℕ, Bool, true, false, cond, List, [], ◌∷◌, Some, find, refl}
use Rattle.std.specs.Option.{option_map}
use Rattle.bm_io.specs.declared.mem_files.MemFile.{MemFile}
use Rattle.bm_io.specs.MemFiles.{file_views, file_bytes, has_name}

-- one more file before a list of files for which the claim is proved
file_before_others : (f : MemFile) (fs : List MemFile) (name : List ℕ) (named : Bool)
    → option_map (λ f. f.bytes.items) (find (has_name name) fs) ≡ file_bytes (file_views fs) name
    → option_map (λ f. f.bytes.items) (cond named (Some f) (find (has_name name) fs))
    ≡ cond named (Some f.bytes.items) (file_bytes (file_views fs) name)
file_before_others f fs name true rest = refl
file_before_others f fs name false rest = rest

-- the search by name returns the bytes of the first file with the name
pub bytes_of_found : (files : List MemFile) (name : List ℕ)
    → option_map (λ f. f.bytes.items) (find (has_name name) files) ≡ file_bytes (file_views files) name
bytes_of_found [] name = refl
bytes_of_found (f ∷ fs) name = file_before_others f fs name (has_name name f) (bytes_of_found fs name)
