-- The two profiles of a boot: `bootmem`'s own, and that of Linux 6.1.
use Rattle.crash_kernel.specs.declared.rule.CrashRule.TheVariants as crash_rules
use Rattle.zone_spans.specs.declared.rule.ZoneRule.TheVariants as zone_rules
use Rattle.boot_model.specs.declared.extra.Profile.{Profile}

-- `bootmem`'s own rules: total memory isn't rounded and doesn't bound the size of the crash area,
-- and a zone of a node spans from the node's first memory frame in it to the last
abbrev pub own_profile : Profile
own_profile = record { crash = crash_rules.ExactTotal; zones = zone_rules.Frames }

-- the rules of Linux 6.1 (`parse_crashkernel_mem`, `zone_spanned_pages_in_node`)
abbrev pub linux_profile : Profile
linux_profile = record { crash = crash_rules.RoundedTotal; zones = zone_rules.NodeHull }
