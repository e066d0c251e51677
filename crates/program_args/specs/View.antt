-- What contracts see of an accepted command line.
use Rattle.clap.specs.Words.{found_of, rows_of}
use Rattle.program_args.specs.declared.args.BootmemArgs.{BootmemArgs as WantedBy}
use Rattle.program_args.specs.Args.{BootmemArgsView, ProgramArgsView, bootmem_args, claims_name_in, command_line_inputs, file_name_in, arg_value_in}

-- what contracts see of an accepted command line of either program
abbrev pub program_args_view : WantedBy → ProgramArgsView
program_args_view w = record {
  named = file_name_in (arg_value_in (rows_of (found_of w.matches)));
  begun = command_line_inputs w.width w.kernel w.mirrors.items w.upward;
  list = w.list.now;
  made = w.made;
  claims = claims_name_in (arg_value_in (rows_of (found_of w.matches)));
}

-- what contracts see of an accepted command line of `bootmem`
abbrev pub bootmem_args_view : WantedBy → BootmemArgsView
bootmem_args_view w = bootmem_args (program_args_view w)
