-- Either the first file is refused, or it is read and the rest after it.
use Rattle.std.proofs.Common.{rules}
use Rattle.boot_model.specs.View.{inputs_view}
use Rattle.boot_inputs.proofs.ReadingLaws.{error_is, gone_on, stopped}
use Rattle.boot_inputs.proofs.list.Tuple2Readers.add_files.Goals as goal

pub returns-in_err-add_file : goal.returns-in_err-add_file
returns-in_err-add_file g c =
    let added = c.in_err-add_file.ensures in
    rw (error_is _ _ c.from_residual.ensures.1)
    (stopped g.F.Files (g.N.Names.named c.args.names.now) g.R.Reader.file g.L.Readers.list c.args.files.now c.add_file.new.files
    (inputs_view c.args.inputs.now) (inputs_view c.add_file.new.inputs) (inputs_view c.add_file.new.inputs)
    c.in_err-add_file.field-0.0 c.requires (search rules))

pub returns : goal.returns
returns g c =
    let added = c.in_ok-add_file.ensures in
    gone_on g.F.Files (g.N.Names.named c.args.names.now) g.R.Reader.file g.L.Readers.list c.args.files.now c.add_file.new.files
    c.add_files.new.files (inputs_view c.args.inputs.now) (inputs_view c.add_file.new.inputs) (inputs_view c.add_files.new.inputs)
    c.add_files.result (search rules) c.add_files.ensures
