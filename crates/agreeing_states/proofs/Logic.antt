-- The logic of three values.
use Rattle.std.proofs.Common.{◌≡◌, ◌∙◌, Bool, true, false, Option, Some, None, refl, ap}
use Rattle.std.specs.Prelude.{not, ◌&&◌, ◌||◌, if◌then◌else◌}
use Rattle.std.specs.Option.{option_map}
use Rattle.basic_laws.proofs.Types.{some_same}
use Rattle.agreeing_states.specs.Kleene.{both, either}

pub both-assoc : (a b c : Option Bool) → both (both a b) c ≡ both a (both b c)
both-assoc (Some false) b c = refl
both-assoc (Some true) b c = refl
both-assoc None (Some false) c = refl
both-assoc None (Some true) c = refl
both-assoc None None (Some false) = refl
both-assoc None None (Some true) = refl
both-assoc None None None = refl

pub both-true : (a : Option Bool) → both a (Some true) ≡ a
both-true (Some false) = refl
both-true (Some true) = refl
both-true None = refl

pub either-assoc : (a b c : Option Bool) → either (either a b) c ≡ either a (either b c)
either-assoc (Some true) b c = refl
either-assoc (Some false) b c = refl
either-assoc None (Some true) c = refl
either-assoc None (Some false) c = refl
either-assoc None None (Some true) = refl
either-assoc None None (Some false) = refl
either-assoc None None None = refl

pub either-false : (a : Option Bool) → either a (Some false) ≡ a
either-false (Some true) = refl
either-false (Some false) = refl
either-false None = refl

and_false : (a : Bool) → (a && false) ≡ false
and_false true = refl
and_false false = refl

or_true : (a : Bool) → (a || true) ≡ true
or_true true = refl
or_true false = refl

-- what is told of an atom is known, and so
pub atom-is : (known wide : Bool) (c b : Bool) → (if known && not wide then Some c else None) ≡ Some b → (known ≡ true) × (c ≡ b)
atom-is true false c b h = (refl, some_same c b h)
atom-is true true c b h = absurd (cc)
atom-is false wide c b h = absurd (cc)

-- where parts are as they are told, so is what is made of them
pub denial-is : (o : Option Bool) (x b : Bool) → ((c : Bool) → o ≡ Some c → x ≡ c) → option_map not o ≡ Some b → not x ≡ b
denial-is (Some c) x b one h = ap not (one c refl) ∙ some_same (not c) b h
denial-is None x b one h = absurd (cc)

pub both-is : (o p : Option Bool) (x y b : Bool) → ((c : Bool) → o ≡ Some c → x ≡ c) → ((c : Bool) → p ≡ Some c → y ≡ c) → both o p ≡ Some b → (x && y) ≡ b
both-is (Some false) p x y b one other h = ap (λ (c : Bool). c && y) (one false refl) ∙ some_same false b h
both-is (Some true) p x y b one other h = ap (λ (c : Bool). c && y) (one true refl) ∙ other b h
both-is None (Some false) x y b one other h = ap (λ (c : Bool). x && c) (other false refl) ∙ and_false x ∙ some_same false b h
both-is None (Some true) x y b one other h = absurd (cc)
both-is None None x y b one other h = absurd (cc)

pub either-is : (o p : Option Bool) (x y b : Bool) → ((c : Bool) → o ≡ Some c → x ≡ c) → ((c : Bool) → p ≡ Some c → y ≡ c) → either o p ≡ Some b → (x || y) ≡ b
either-is (Some true) p x y b one other h = ap (λ (c : Bool). c || y) (one true refl) ∙ some_same true b h
either-is (Some false) p x y b one other h = ap (λ (c : Bool). c || y) (one false refl) ∙ other b h
either-is None (Some true) x y b one other h = ap (λ (c : Bool). x || c) (other true refl) ∙ or_true x ∙ some_same true b h
either-is None (Some false) x y b one other h = absurd (cc)
either-is None None x y b one other h = absurd (cc)
