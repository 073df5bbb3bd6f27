use Rattle.lean_elimination.proofs.multiples.+multiples.Given as goal

abbrev pub decreases-multiples : goal.decreases-multiples
decreases-multiples l = l.k
