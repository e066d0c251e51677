-- The decision whether a boot continues with its map.
use Rattle.std.specs.Prelude.{◌^◌, ◌==◌, nat_lt, if◌then◌else◌, Option, Some, None}
use Rattle.e820_model.specs.Map.{TypeAt}
use Rattle.e820_model.specs.Usable.{usable_frames}
use Rattle.e820_sanitise.specs.declared.stop.MapStop.{MapStop}
use Rattle.e820_sanitise.specs.declared.stop.MapStop.TheVariants as stops

-- why a boot stops at a map with these types: there is no usable frame, or there are more than
-- 2^32. None if the boot continues.
abbrev pub judge_frames : TypeAt → Option MapStop
judge_frames f =
    if usable_frames f == 0 then Some stops.NoRam
    else (if nat_lt (2 ^ 32) (usable_frames f) then Some (stops.TooMuchRam (usable_frames f)) else None)
