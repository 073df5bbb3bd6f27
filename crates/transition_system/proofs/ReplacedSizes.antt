-- Sizes of replaced forms.
--
-- A form whose numbers are below 2^32 gets forms with numbers at most 2^30 in the place of at most 64 variables: each adds
-- at most 2^62, so the numbers stay below 2^69.
use Rattle.std.proofs.Common.{◌≡◌, ℕ, zero, suc, ◌+◌, ◌<◌, ◌≤◌, Bool, true, false, List, [], ◌∷◌, length, ℤ, pos, negsuc, ◌+ℤ◌, ◌*ℤ◌, Option, Some, None, refl, subst, arith}
use Rattle.std.specs.Prelude.{slice_get, unsigned_abs, is_some, if◌then◌else◌, ◌==◌}
use Rattle.std.proofs.lemmas.Int.{ints}
use Rattle.st_linear.specs.Linear.{Linear, AreEntries, fitting, sum_of, scaled, scaled_entries, with_entry, joined, form_for, kept_entries, plus_scaled, with_one, with_listed, replaced}
use Rattle.st_linear.proofs.Joined.{joined-ind, AreEntries-joined}
use Rattle.st_linear.proofs.Fitting.{fitting-is, AreEntries-scaled}
use Rattle.st_linear.proofs.Replacing.{AreEntries-kept, bind-some}
use Rattle.transition_system.specs.Bounds.{EntriesWithin, LinearWithin}
use Rattle.list_laws.specs.Each.{Each}
use Rattle.list_laws.proofs.Eachs.{each_weaker}

module _ (truths : List Bool) where
  -- an entry of an integer variable, of at most this size
  abbrev pub EntryUpTo : ℕ → ℕ × ℤ → Type 0
  EntryUpTo b e = (slice_get truths e.0 ≡ Some false) × (unsigned_abs e.1 ≤ b)

  pub record UpTo (b : ℕ) (f : Linear) : Type 0 where
    pub rising : AreEntries f.entries
    pub constant : unsigned_abs f.constant ≤ b
    pub entries : Each (EntryUpTo b) f.entries

  entry_wider : (b c : ℕ) → b ≤ c → (e : ℕ × ℤ) → EntryUpTo b e → EntryUpTo c e
  entry_wider b c le e h = (h.0, (let q = h.1 in omega arith))

  pub wider : (b c : ℕ) (f : Linear) → b ≤ c → UpTo b f → UpTo c f
  wider b c f le h = record { rising = h.rising; constant = (let q = h.constant in omega arith); entries = each_weaker (EntryUpTo b) (EntryUpTo c) (entry_wider b c le) f.entries h.entries }

  sum_le : (x y : ℤ) (b c : ℕ) → unsigned_abs x ≤ b → unsigned_abs y ≤ c → unsigned_abs (x +ℤ y) ≤ b + c
  sum_le x y b c h k = omega (arith, ints)

  with_entry_up : (b v : ℕ) (z : ℤ) (es : List (ℕ × ℤ)) → EntryUpTo b (v, z) → Each (EntryUpTo b) es → Each (EntryUpTo b) (with_entry v z es)
  with_entry_up b v (pos zero) es h k = k
  with_entry_up b v (pos (suc n)) es h k = (h, k)
  with_entry_up b v (negsuc n) es h k = (h, k)

  abbrev Joint : ℕ → ℕ → List (ℕ × ℤ) → List (ℕ × ℤ) → List (ℕ × ℤ) → Type 0
  Joint b c xs ys zs = Each (EntryUpTo b) xs → Each (EntryUpTo c) ys → Each (EntryUpTo (b + c)) zs

  joined_up : (b c : ℕ) (xs ys : List (ℕ × ℤ)) → Each (EntryUpTo b) xs → Each (EntryUpTo c) ys → Each (EntryUpTo (b + c)) (joined xs ys)
  joined_up b c xs ys =
      joined-ind (Joint b c)
      (λ ys h k. each_weaker (EntryUpTo c) (EntryUpTo (b + c)) (entry_wider c (b + c) (omega arith)) ys k)
      (λ x xs h k. each_weaker (EntryUpTo b) (EntryUpTo (b + c)) (entry_wider b (b + c) (omega arith)) (x ∷ xs) h)
      (λ x y xs ys zs o r h k. (entry_wider b (b + c) (omega arith) x h.0, r h.1 k))
      (λ x y xs ys zs o r h k. (entry_wider c (b + c) (omega arith) y k.0, r h k.1))
      (λ x y xs ys zs o r h k. with_entry_up (b + c) x.0 (x.1 +ℤ y.1) zs (h.0.0, sum_le x.1 y.1 b c h.0.1 k.0.1) (r h.1 k.1))
      xs ys

  pub sum_up : (b c : ℕ) (f g : Linear) → UpTo b f → UpTo c g → UpTo (b + c) (sum_of f g)
  sum_up b c f g h k = record {
    rising = AreEntries-joined f.entries g.entries h.rising k.rising;
    constant = sum_le f.constant g.constant b c h.constant k.constant;
    entries = joined_up b c f.entries g.entries h.entries k.entries;
  }

  -- a product of sizes, as one number
  abbrev IsProduct : ℕ → ℕ → ℕ → Type 0
  IsProduct b c u = (x y : ℤ) → unsigned_abs x ≤ b → unsigned_abs y ≤ c → unsigned_abs (x *ℤ y) ≤ u

  scaled_up : (b c u : ℕ) → IsProduct b c u → (z : ℤ) → unsigned_abs z ≤ c → (f : Linear) → UpTo b f → UpTo u (scaled z f)
  scaled_up b c u p z le f h = record { rising = AreEntries-scaled z f.entries h.rising; constant = p f.constant z h.constant le; entries = each f.entries h.entries }
    where
      each : (es : List (ℕ × ℤ)) → Each (EntryUpTo b) es → Each (EntryUpTo u) (scaled_entries z es)
      each [] k = tt
      each (e ∷ es) k = with_entry_up u e.0 (e.1 *ℤ z) (scaled_entries z es) (k.0.0, p e.1 z k.0.1 le) (each es k.1)

  -- the bound behind some more summands
  abbrev pub behind : ℕ → ℕ → ℕ → ℕ
  behind u zero b = b
  behind u (suc n) b = behind u n (b + u)

  pub behind_le : (u n b : ℕ) → b ≤ behind u n b
  behind_le u zero b = omega arith
  behind_le u (suc n) b = let h = behind_le u n (b + u) in omega arith

  pub behind_more : (u n m b c : ℕ) → n ≤ m → b ≤ c → behind u n b ≤ behind u m c
  behind_more u zero m b c h k = let g = behind_le u m c in omega arith
  behind_more u (suc n) zero b c h k = absurd (omega arith)
  behind_more u (suc n) (suc m) b c h k = behind_more u n m (b + u) (c + u) (omega arith) (omega arith)

  form_up : (b v : ℕ) (ps : List (ℕ × Linear)) (g : Linear) → Each (λ p. UpTo b p.1) ps → form_for v ps ≡ Some g → UpTo b g
  form_up b v [] g h e = cc
  form_up b v (p ∷ ps) g h e = by_test (p.0 == v) e (λ q. form_up b v ps g h.1 q)
    where
      by_test : (t : Bool) → (if t then Some p.1 else form_for v ps) ≡ Some g → (form_for v ps ≡ Some g → UpTo b g) → UpTo b g
      by_test true q down = let same : p.1 ≡ g = cc in subst (UpTo b) same h.0
      by_test false q down = down q

  kept_up : (b : ℕ) (ps : List (ℕ × Linear)) (es : List (ℕ × ℤ)) → Each (EntryUpTo b) es → Each (EntryUpTo b) (kept_entries ps es)
  kept_up b ps [] h = tt
  kept_up b ps (e ∷ es) h = by_test (is_some (form_for e.0 ps)) (kept_up b ps es h.1)
    where
      by_test : (t : Bool) → Each (EntryUpTo b) (kept_entries ps es) → Each (EntryUpTo b) (if t then kept_entries ps es else e ∷ kept_entries ps es)
      by_test true r = r
      by_test false r = (h.0, r)

  listed_up : (b c u : ℕ) → IsProduct b c u → (ps : List (ℕ × Linear)) → Each (λ p. UpTo b p.1) ps → (es : List (ℕ × ℤ)) → Each (EntryUpTo c) es → (f : Linear) (d : ℕ) → UpTo d f → (r : Linear) → with_listed ps es f ≡ Some r → UpTo (behind u (length es) d) r
  listed_up b c u p ps k [] h f d g r e = let same : f ≡ r = cc in subst (UpTo d) same g
  listed_up b c u p ps k (x ∷ es) h f d g r e = by_form (form_for x.0 ps) refl e (λ f d g q. listed_up b c u p ps k es h.1 f d g r q)
    where
      by_form : (o : Option Linear) → form_for x.0 ps ≡ o → with_one o x.1 (with_listed ps es) f ≡ Some r → ((f : Linear) (d : ℕ) → UpTo d f → with_listed ps es f ≡ Some r → UpTo (behind u (length es) d) r) → UpTo (behind u (length es) (d + u)) r
      by_form None q e down = wider _ _ r (behind_more u (length es) (length es) d (d + u) (omega arith) (omega arith)) (down f d g e)
      by_form (Some form) q e down =
          let summed = bind-some (with_listed ps es) (plus_scaled f x.1 form) r e in
          let product = bind-some (λ s. fitting (sum_of f s)) (fitting (scaled x.1 form)) summed.0 summed.1 in
          let is_product : scaled x.1 form ≡ product.0 = fitting-is _ _ product.1 in
          let is_sum : sum_of f product.0 ≡ summed.0 = fitting-is _ _ product.2 in
          let up : UpTo u product.0 = subst (UpTo u) is_product (scaled_up b c u p x.1 h.0.1 form (form_up b x.0 ps form k q)) in
          down summed.0 (d + u) (subst (UpTo (d + u)) is_sum (sum_up d u f product.0 g up)) summed.2

  pub replaced_up : (b c u : ℕ) → IsProduct b c u → (ps : List (ℕ × Linear)) → Each (λ p. UpTo b p.1) ps → (f : Linear) → UpTo c f → (r : Linear) → replaced ps f ≡ Some r → UpTo (behind u (length f.entries) c) r
  replaced_up b c u p ps k f h r e =
      listed_up b c u p ps k f.entries h.entries (record { constant = f.constant; entries = kept_entries ps f.entries }) c
      (record { rising = AreEntries-kept ps f.entries h.rising; constant = h.constant; entries = kept_up c ps f.entries h.entries }) r e

  -- within a bound, and up to it
  entries_up : (b : ℕ) (es : List (ℕ × ℤ)) → EntriesWithin truths (suc b) es → Each (EntryUpTo b) es
  entries_up b [] h = tt
  entries_up b (e ∷ es) h = ((h.0, (let q = h.1 in omega arith)), entries_up b es h.2)

  pub up_of : (b : ℕ) (f : Linear) → LinearWithin truths (suc b) f → UpTo b f
  up_of b f h = record { rising = h.rising; constant = (let q = h.constant in omega arith); entries = entries_up b f.entries h.entries }

  up_entries : (b c : ℕ) → b < c → (es : List (ℕ × ℤ)) → Each (EntryUpTo b) es → EntriesWithin truths c es
  up_entries b c lt [] h = tt
  up_entries b c lt (e ∷ es) h = (h.0.0, (let q = h.0.1 in omega arith), up_entries b c lt es h.1)

  pub of_up : (b c : ℕ) (f : Linear) → b < c → UpTo b f → LinearWithin truths c f
  of_up b c f lt h = record { rising = h.rising; constant = (let q = h.constant in omega arith); entries = up_entries b c lt f.entries h.entries }
