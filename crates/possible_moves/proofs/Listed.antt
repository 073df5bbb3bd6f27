-- The name of what stands at a place of a list of moves is offered.
use Rattle.std.proofs.Common.{◌≡◌, ℕ, ◌<◌, true, List, length, map, refl, sym, subst, get_or, ltb, arith, inl}
use Rattle.std.specs.String.{string_bytes}
use Rattle.std.proofs.lemmas.Option.{slice_get_read}
use Rattle.std.proofs.lemmas.Bool.Decides.{nat_tests}
use Rattle.st_program.specs.Member.{Member}
use Rattle.spl_semantics.proofs.Members.{map_member, at_member}
use Rattle.proof_reports.specs.declared.moves.MoveReport.{MoveReport}
use Rattle.possible_moves.specs.Choices.{IsOffered}

module _ (moves : List MoveReport) (k : ℕ) (m : MoveReport) (name : List ℕ) (named : name ≡ string_bytes m.name) (is : m ≡ get_or moves k m) where
  pub offered : k < length moves → IsOffered moves name
  offered within =
      let member = at_member m moves k (slice_get_read moves (length moves) k m refl within is) in
      inl (subst (λ n. Member n (map (λ m. string_bytes m.name) moves)) (sym named) (map_member (λ m. string_bytes m.name) member))

  pub offered_at : true ≡ ltb k (length moves) → IsOffered moves name
  offered_at at = offered (grind (arith, nat_tests))
