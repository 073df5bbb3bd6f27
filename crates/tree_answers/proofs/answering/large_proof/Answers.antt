use Rattle.tree_answers.proofs.answering.large_proof.Goals as goal

pub pose_script-requires : goal.pose_script-requires
pose_script-requires c = record { translated = (rw c.in-Some.is at c.in_ok-source.ensures).made }
