-- "Eventually" as "it is not so that there is none".
use Rattle.std.proofs.Common.{ℕ, ◌≤◌, ◌⊎◌, inl, inr}
use Rattle.fair_computations.specs.Fair.{FromSomeOn, Eventually, AlwaysEventually, GetsCompassionClassically}

abbrev pub Some : Type 0 → Type 0
Some A = ¬ (¬ A)

pub some : (A : Type 0) → A → Some A
some A a none = none a

pub some_bind : (A B : Type 0) → Some A → (A → Some B) → Some B
some_bind A B a f none = a (λ x. f x none)

pub from_eventually : (P : ℕ → Type 0) (k : ℕ) → Eventually P k → Some ((m : ℕ) × (k ≤ m) × P m)
from_eventually P k comes none = comes (λ m from at. none (m, from, at))

pub to_eventually : (P : ℕ → Type 0) (k : ℕ) → Some ((m : ℕ) × (k ≤ m) × P m) → Eventually P k
to_eventually P k comes never = comes (λ found. never found.0 found.1 found.2)

pub weaker : (P Q : ℕ → Type 0) → ((k : ℕ) → P k → Q k) → AlwaysEventually P → AlwaysEventually Q
weaker P Q f again k never = again k (λ m from at. never m from (f m at))

-- by classical logic a name is enabled again and again, or never from some position on
pub compassion : (Taken Enabled : ℕ → Type 0) → GetsCompassionClassically Taken Enabled → Some (((k : ℕ) → Some ((m : ℕ) × (k ≤ m) × Taken m)) ⊎ FromSomeOn (λ m. ¬ (Enabled m)))
compassion Taken Enabled owed neither = neither (inl (λ k. from_eventually Taken k (owed (λ j never. neither (inr (j, never))) k)))
