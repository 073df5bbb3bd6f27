use Rattle.std.proofs.Common.{◌≡◌, ◌++◌, map, drop}
use Rattle.spl_parser.specs.ProgramTree.{process_views}
use Rattle.source_places.specs.Starts.{start_view, program_starts}
use Rattle.source_places.proofs.starting.starts.Given as goal

abbrev pub invariant-loop-process : goal.invariant-loop-process
invariant-loop-process l = map start_view l.out.items ++ program_starts (process_views (drop l.process l.processes)) ≡ program_starts (process_views l.processes)
