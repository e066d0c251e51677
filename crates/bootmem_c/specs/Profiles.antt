-- The profiles by their numbers.
use Rattle.std.specs.Prelude.{ℕ, ◌==◌, if◌then◌else◌, Option, Some, None}
use Rattle.bootmem_c.specs.declared.profile.BootProfile.{BootProfile}
use Rattle.bootmem_c.specs.declared.profile.BootProfile.TheVariants as profiles

-- the profile with this number: 0 is `bootmem`'s own (`BOOTMEM_OWN`), 1 is that of Linux 6.1
-- (`BOOTMEM_LINUX_6_1`)
abbrev pub profile_of_number : ℕ → Option BootProfile
profile_of_number number =
    if number == 0 then Some profiles.Own else if number == 1 then Some profiles.Linux61 else None
