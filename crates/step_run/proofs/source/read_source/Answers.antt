use Rattle.std.proofs.lemmas.Result.{err_from_is_err_and}
use Rattle.st_reading.specs.Faults.{see}
use Rattle.spl_parser.specs.ProgramTree.{program_view}
use Rattle.step_run.proofs.Typed.{spelled_ok, spelled_err, typed_err}
use Rattle.step_run.proofs.source.read_source.Goals as goal

pub returns-in_err-raw : goal.returns-in_err-raw
returns-in_err-raw c =
    let p = err_from_is_err_and c.from_residual.result c.from_residual.ensures.1 in
    rw p.1 (spelled_err p.0 (see c.in_err-raw.field-0.0) c.args.text.now p.2 c.in_err-raw.ensures.reads)

pub returns-in_err-program : goal.returns-in_err-program
returns-in_err-program c =
    let p = err_from_is_err_and c.from_residual-in_err-program.result c.from_residual-in_err-program.ensures.1 in
    rw p.1 (typed_err p.0 c.in_err-program.field-0.0 c.args.text.now (program_view c.in_ok-raw.raw) p.2 c.in_ok-raw.ensures.reads c.in_err-program.ensures)

pub returns : goal.returns
returns c = spelled_ok c.args.text.now (program_view c.in_ok-raw.raw) _ c.in_ok-raw.ensures.reads c.in_ok-program.ensures
