-- Whether a transition is just or compassionate, as the readers test it.
use Rattle.std.proofs.Common.{None, Option, Some, false, inl, inr, not, refl, ◌≡◌, ◌⊎◌}
use Rattle.observations.specs.declared.Fairness.{Fairness}
use Rattle.observations.specs.declared.Fairness.TheVariants.{Compassionate, Just, Unfair}
use Rattle.ranked_net.specs.Making.{owes_compassion, owes_justice}
use Rattle.diagram_reader.specs.Transitions.{owes_justice as drawing_owes_justice}

pub just_is : (o : Option Fairness) → not (owes_justice o) ≡ false → (o ≡ Some Just) ⊎ (o ≡ Some Compassionate)
just_is None e = absurd cc
just_is (Some Unfair) e = absurd cc
just_is (Some Just) e = inl refl
just_is (Some Compassionate) e = inr refl

pub is_owed : (o : Option Fairness) → (o ≡ Some Just) ⊎ (o ≡ Some Compassionate) → not (owes_justice o) ≡ false
is_owed o (inl e) = rw e refl
is_owed o (inr e) = rw e refl

pub drawn_just_is : (o : Option Fairness) → not (drawing_owes_justice o) ≡ false → (o ≡ Some Just) ⊎ (o ≡ Some Compassionate)
drawn_just_is None e = absurd cc
drawn_just_is (Some Unfair) e = absurd cc
drawn_just_is (Some Just) e = inl refl
drawn_just_is (Some Compassionate) e = inr refl

pub drawn_is_owed : (o : Option Fairness) → (o ≡ Some Just) ⊎ (o ≡ Some Compassionate) → not (drawing_owes_justice o) ≡ false
drawn_is_owed o (inl e) = rw e refl
drawn_is_owed o (inr e) = rw e refl

pub compassionate_is : (o : Option Fairness) → not (owes_compassion o) ≡ false → o ≡ Some Compassionate
compassionate_is None e = absurd cc
compassionate_is (Some Unfair) e = absurd cc
compassionate_is (Some Just) e = absurd cc
compassionate_is (Some Compassionate) e = refl

pub compassion_is_owed : (o : Option Fairness) → o ≡ Some Compassionate → not (owes_compassion o) ≡ false
compassion_is_owed o e = rw e refl
