-- What holds of the boot of each program holds of the boot by its profile.
use Rattle.bootmem_c.proofs.boots.boot_strings.Goals as goal

pub returns-in-Own-clause-boots : goal.returns-in-Own-clause-boots
returns-in-Own-clause-boots c = rw c.in-Own.is c.boot_with_strings.ensures.boots

pub returns-in-Own-clause-fails : goal.returns-in-Own-clause-fails
returns-in-Own-clause-fails c = rw c.in-Own.is c.boot_with_strings.ensures.fails

pub returns-in-Linux61-clause-boots : goal.returns-in-Linux61-clause-boots
returns-in-Linux61-clause-boots c = rw c.in-Linux61.is c.boot_with_strings61.ensures.boots

pub returns-in-Linux61-clause-fails : goal.returns-in-Linux61-clause-fails
returns-in-Linux61-clause-fails c = rw c.in-Linux61.is c.boot_with_strings61.ensures.fails
