-- The words and files that the caller passes, as bytes.
use Rattle.std.specs.Prelude.{ℕ, List, map}
use Rattle.bm_io.specs.MemFiles.{MemFileView}
use Rattle.bootmem_c.specs.declared.crossing.Bytes.{Bytes}
use Rattle.bootmem_c.specs.declared.crossing.File.{File}

-- the bytes of a word
abbrev pub lent_word : Bytes → List ℕ
lent_word word = word.bytes.now

-- the bytes of each word
abbrev pub lent_words : List Bytes → List (List ℕ)
lent_words words = map lent_word words

-- the name and the bytes of a file
abbrev pub lent_file : File → MemFileView
lent_file file = record { name = file.name.now; bytes = file.bytes.now }

-- the name and the bytes of each file
abbrev pub lent_files : List File → List MemFileView
lent_files files = map lent_file files
