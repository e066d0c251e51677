-- Accepted words boot with what they ask for. Other words are refused.
use Rattle.std.specs.Prelude.{Some}
use Rattle.bm_io.specs.MemFiles.{file_bytes}
use Rattle.program_args.specs.declared.reader.ArgsError.TheVariants as words
use Rattle.program_run.proofs.RunLaws.{are_accepted, words_fit}
use Rattle.program_run.specs.Outcome.{bootmem_outcome}
use Rattle.bootmem_c.specs.Lent.{lent_files}
use Rattle.bootmem_c.proofs.boots.boot_with_strings.Goals as goal

pub returns-in-Ok-clause-boots : goal.returns-in-Ok-clause-boots
returns-in-Ok-clause-boots c = rw (are_accepted _ _ c.in-Ok.ensures) c.boot_with_args.ensures.boots

pub returns-in-Ok-clause-fails : goal.returns-in-Ok-clause-fails
returns-in-Ok-clause-fails c = rw (are_accepted _ _ c.in-Ok.ensures) c.boot_with_args.ensures.fails

pub returns-in-Err-Usage-clause-fails : goal.returns-in-Err-Usage-clause-fails
returns-in-Err-Usage-clause-fails c =
    words_fit (λ held args. bootmem_outcome (Some args) held)
    (Some (file_bytes (lent_files c.args.files.now))) _ words.Usage (rw c.in-Err-Usage.field-0-is at c.in-Err-Usage.ensures)
