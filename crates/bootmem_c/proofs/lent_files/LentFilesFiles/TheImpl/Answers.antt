-- A fetch never fails for a name that a lent file has. A fetch that fails is counted.
use Rattle.std.proofs.Common.{Some, ap, arith}
use Rattle.bm_io.specs.MemFiles.{file_bytes}
use Rattle.bootmem_c.proofs.FetchLaws.{bytes_stay, faults_fit, faults_rose, faults_stay}
use Rattle.bootmem_c.proofs.lent_files.LentFilesFiles.TheImpl.Goals as goal

pub fetch-tells : goal.fetch-tells
fetch-tells _ c = record {
  bounded = c.ensures.bounded;
  told = c.ensures.told;
  failed = λ is. faults_rose c.result _ _ _ is c.ensures.files (c.ensures.failed is) c.ensures.misses c.ensures.few;
  too_long = λ is. bytes_stay c.args.limit;
  longer = c.ensures.too_long.0;
  kept = ap (λ files. Some (file_bytes files)) c.ensures.files;
  faults_stay = faults_stay c.result _ _ c.ensures.files c.ensures.misses;
  faults_fit = faults_fit _;
  taken_stays = omega arith;
  taken_fits = omega arith;
}
