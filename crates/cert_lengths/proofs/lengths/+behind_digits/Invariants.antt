use Rattle.cert_lengths.proofs.lengths.+behind_digits.Given as goal

abbrev pub decreases-behind_digits : goal.decreases-behind_digits
decreases-behind_digits l = l.left
