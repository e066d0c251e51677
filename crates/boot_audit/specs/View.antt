-- What contracts see of the program's values.
use Rattle.boot_audit.specs.declared.judgement.Saved.{Saved}
use Rattle.boot_audit.specs.declared.args.AuditArgs.{AuditArgs}
use Rattle.boot_audit.specs.Outcome.{SavedView}
use Rattle.boot_audit.specs.Args.{AuditArgsView}

-- what contracts see of an accepted command line
abbrev pub audit_args_view : AuditArgs → AuditArgsView
audit_args_view names = record {
  width = names.width;
  map_name = names.map.now;
  owners_name = names.owners.now;
  blocks_name = names.blocks.now;
}

-- what contracts see of the lines of the three saved reports
abbrev pub saved_view : Saved → SavedView
saved_view saved = record { map_lines = saved.map.items; owners = saved.owners.items; blocks = saved.blocks.items }
