use Rattle.proof_script.proofs.Lookups.{name_taken, name_free}
use Rattle.proof_script.proofs.naming.new_name.Goals as goal

pub returns-then-contains_key-clause-reads : goal.returns-then-contains_key-clause-reads
returns-then-contains_key-clause-reads c = name_taken c.args.earlier.now.entries _ _ _ c.in_ok-name.ensures.refuses c.in-Some.text.now c.in-Some.ensures c.if-contains_key.ensures

pub returns-clause-reads : goal.returns-clause-reads
returns-clause-reads c = name_free c.args.earlier.now.entries _ _ _ c.in_ok-name.ensures.refuses c.in-Some.text.now c.in-Some.ensures _ c.if-contains_key.ensures c.in_ok-from_str.ensures.ok
