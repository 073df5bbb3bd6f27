-- What a reader carries on is what its values say.
use Rattle.std.proofs.Common.{◌≡◌, ℕ, zero, suc, List, [], ◌∷◌, ◌++◌, Option, Some, None, Ok, Err, refl, sym, ap, subst, ◌∙◌, append-nil, append_assoc}
use Rattle.st_tokens.specs.Stream.{Stream, behind}
use Rattle.st_reading.specs.declared.mark.Mark.{Mark}
use Rattle.st_reading.specs.declared.sign.Sign.{Sign}
use Rattle.st_reading.specs.Reading.{Read, ◌>>=◌, ahead, place_of, size, then_reads, expected, gives, turned, on_operator, chain, only, Carried, counting, linked}
use Rattle.st_reading.proofs.Soundness.{split, values}
use Rattle.st_reading.proofs.ListSoundness.{counted_on}
use Rattle.st_reading.proofs.ListCompleteness.{all_after, AllFit}

-- `go` says what a value carries on, and the value fits where it stands
abbrev pub Tallies : {X N A : Type 0} → (N → Stream → Read X (Carried N A)) → (A → N → N) → (A → N → Type 0) → Type 0
Tallies {X} {N} {A} r go Fits = (n : N) (s : Stream) (y : Carried N A) (rest : Stream) → r n s ≡ Ok (y, rest) → (y.1 ≡ go y.0 n) × Fits y.0 n

-- items behind those that were read before
pub record Added {N A : Type 0} (go : A → N → N) (Fits : A → N → Type 0) (xs zs : Carried N (List A)) : Type 0 where
  pub more_items : List A
  pub joined : zs.0 ≡ xs.0 ++ more_items
  pub count : zs.1 ≡ all_after go more_items xs.1
  pub fits : AllFit go Fits more_items xs.1

module _ {X O N A : Type 0} (op : Sign → Option O) (r : O → N → Stream → Read X (Carried N A)) (go : A → N → N) (Fits : A → N → Type 0) (tallies : (o : O) → Tallies (r o) go Fits) where
  none_added : (xs zs : Carried N (List A)) (s rest : Stream) → gives {X = X} xs s ≡ Ok (zs, rest) → Added go Fits xs zs
  none_added xs zs s rest h =
      let e = (values {X = X} (gives xs s) xs zs s rest refl h).0 in
      record { more_items = []; joined = ap (λ (z : Carried N (List A)). z.0) (sym e) ∙ sym (append-nil xs.0); count = ap (λ (z : Carried N (List A)). z.1) (sym e); fits = tt }

  one_added : (xs : Carried N (List A)) (x : Carried N A) (zs : Carried N (List A)) → x.1 ≡ go x.0 xs.1 → Fits x.0 xs.1 → Added go Fits (xs.0 ++ x.0 ∷ [], x.1) zs → Added go Fits xs zs
  one_added xs x zs e f d = record {
    more_items = x.0 ∷ d.more_items;
    joined = d.joined ∙ append_assoc xs.0 (x.0 ∷ []) d.more_items;
    count = d.count ∙ ap (all_after go d.more_items) e;
    fits = (f, subst (AllFit go Fits d.more_items) e d.fits);
  }

  at_operator : (k : ℕ) → ((xs : Carried N (List A)) (s : Stream) (zs : Carried N (List A)) (rest : Stream) → chain op (counting r) gives k xs s ≡ Ok (zs, rest) → Added go Fits xs zs) → (xs : Carried N (List A)) (s : Stream) (zs : Carried N (List A)) (rest : Stream) (p : Option O)
      → on_operator p (gives {X = X} xs s) (λ o. counting r o (place_of s) xs (behind s) >>= λ y. turned (λ w n. chain op (counting r) gives k w n) y.0 y.1) ≡ Ok (zs, rest) → Added go Fits xs zs
  at_operator k again xs s zs rest None h = none_added xs zs s rest h
  at_operator k again xs s zs rest (Some o) h =
      let p = split (r o xs.1) (λ x m. chain op (counting r) gives k (xs.0 ++ x.0 ∷ [], x.1) m) (behind s) zs rest (at_read (r o xs.1 (behind s)) h) in
      let t = tallies o xs.1 (behind s) p.value p.middle p.first in
      one_added xs p.value zs t.0 t.1 (again (xs.0 ++ p.value.0 ∷ [], p.value.1) p.middle zs rest p.second)
    where
      at_read : (q : Read X (Carried N A)) → ((q >>= λ x. gives {X = X} (counted_on xs x.0) x.1) >>= λ y. turned (λ w n. chain op (counting r) gives k w n) y.0 y.1) ≡ Ok (zs, rest) → (q >>= λ x. chain op (counting r) gives k (xs.0 ++ x.0.0 ∷ [], x.0.1) x.1) ≡ Ok (zs, rest)
      at_read (Ok x) h = h
      at_read (Err f) h = cc

  pub chain_tallies : (k : ℕ) (xs : Carried N (List A)) (s : Stream) (zs : Carried N (List A)) (rest : Stream) → chain op (counting r) gives k xs s ≡ Ok (zs, rest) → Added go Fits xs zs
  unfolding chain
  chain_tallies zero xs s zs rest h = none_added xs zs s rest h
  chain_tallies (suc k) xs s zs rest h = at_operator k (λ xs s zs rest h. chain_tallies k xs s zs rest h) xs s zs rest (op (ahead s)) h

-- all that was read, from nothing on
pub all_told : {N A : Type 0} (go : A → N → N) (Fits : A → N → Type 0) (n : N) (zs : Carried N (List A)) → Added go Fits ([], n) zs → (zs.1 ≡ all_after go zs.0 n) × AllFit go Fits zs.0 n
all_told go Fits n zs d = (d.count ∙ ap (λ v. all_after go v n) (sym d.joined), subst (λ v. AllFit go Fits v n) (sym d.joined) d.fits)

module _ {X N A : Type 0} (mark : Mark) (r : N → Stream → Read X (Carried N A)) (go : A → N → N) (Fits : A → N → Type 0) (tallies : Tallies r go Fits) where
  -- the first item before the others
  first_added : (n : N) (x : Carried N A) (zs : Carried N (List A)) → x.1 ≡ go x.0 n → Fits x.0 n → Added go Fits (x.0 ∷ [], x.1) zs → Added go Fits ([], n) zs
  first_added n x zs e f d = one_added (only mark) (λ o. r) go Fits (λ o. tallies) ([], n) x zs e f d

  linked_added : (xs : Carried N (List A)) (s : Stream) (zs : Carried N (List A)) (rest : Stream) → linked mark r xs s ≡ Ok (zs, rest) → Added go Fits xs zs
  linked_added xs s zs rest h = chain_tallies (only mark) (λ o. r) go Fits (λ o. tallies) (size s) xs s zs rest h

  pub row_tallies : Tallies (λ n. then_reads (r n) (λ x. linked mark r (x.0 ∷ [], x.1))) (all_after go) (AllFit go Fits)
  row_tallies n s zs rest h =
      let p = split (r n) (λ x. linked mark r (x.0 ∷ [], x.1)) s zs rest h in
      let t = tallies n s p.value p.middle p.first in
      all_told go Fits n zs (first_added n p.value zs t.0 t.1 (linked_added (p.value.0 ∷ [], p.value.1) p.middle zs rest p.second))

  abbrev behind_first : Carried N A → Stream → Read X (Carried N (List A))
  behind_first x = then_reads (expected mark) (λ m. then_reads (r x.1) (λ y. linked mark r (x.0 ∷ y.0 ∷ [], y.1)))

  pub row2_tallies : Tallies (λ n. then_reads (r n) behind_first) (all_after go) (AllFit go Fits)
  row2_tallies n s zs rest h =
      let p = split (r n) behind_first s zs rest h in
      let q = split (expected mark) (λ m. then_reads (r p.value.1) (λ y. linked mark r (p.value.0 ∷ y.0 ∷ [], y.1))) p.middle zs rest p.second in
      let w = split (r p.value.1) (λ y. linked mark r (p.value.0 ∷ y.0 ∷ [], y.1)) q.middle zs rest q.second in
      let t = tallies n s p.value p.middle p.first in
      let u = tallies p.value.1 q.middle w.value w.middle w.first in
      let others = linked_added (p.value.0 ∷ w.value.0 ∷ [], w.value.1) w.middle zs rest w.second in
      all_told go Fits n zs (first_added n p.value zs t.0 t.1 (one_added (only mark) (λ o. r) go Fits (λ o. tallies) (p.value.0 ∷ [], p.value.1) w.value zs u.0 u.1 others))
