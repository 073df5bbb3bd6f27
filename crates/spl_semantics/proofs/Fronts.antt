-- Where control is has no location twice, and is what the definition of fronts says.
use Rattle.std.proofs.Common.{◌≡◌, ℕ, suc, ◌+◌, ◌≤◌, List, [], ◌∷◌, ◌++◌, length, sym, ap, ◌∙◌, subst, refl, arith}
use Rattle.st_program.specs.Tree.{stated, cooperate, process, Processes, no_process, beside, location}
use Rattle.st_program.specs.Member.{Member, here, there}
use Rattle.st_program.specs.Spots.{bodies_in, Spot, at_spot, spots_along, spots_inside, all_spots, body}
use Rattle.st_program.specs.Residuals.{Rest, Done, Run, Then, Again, Inside, Rests, no_rest, rests}
use Rattle.spl_semantics.specs.Control.{children_at, location_at, front, fronts}
use Rattle.spl_semantics.proofs.Members.{member_none, member_left, member_right, member_cases}
use Rattle.spl_semantics.proofs.Texts.{near_along, Region, along_region}
use Rattle.basic_laws.proofs.Types.{either}
use Rattle.spl_semantics.proofs.Fits.{location_or, body_place, location_of, front_to, fronts_to, IsGoing, Layout, Fits, FitsAll}
use Rattle.spl_semantics.proofs.Ended.{Spans, Ends, above, below}

-- no element twice
abbrev pub NoDup : List ℕ → Type 0
NoDup [] = Unit {0}
NoDup (x ∷ xs) = (Member x xs → ⊥) × NoDup xs

no_dup_append : (xs ys : List ℕ) → NoDup xs → NoDup ys → ((k : ℕ) → Member k xs → Member k ys → ⊥) → NoDup (xs ++ ys)
no_dup_append [] ys a b d = b
no_dup_append (x ∷ xs) ys a b d = (λ m. either (member_cases xs m) a.0 (d x (here refl)), no_dup_append xs ys a.1 b (λ k m. d k (there m)))

pub no_dup_split : (xs ys : List ℕ) (k : ℕ) → NoDup (xs ++ ys) → Member k xs → Member k ys → ⊥
no_dup_split [] ys k d m n = member_none m
no_dup_split (x ∷ xs) ys k d (here q) n = d.0 (member_right xs (subst (λ z. Member z ys) q n))
no_dup_split (x ∷ xs) ys k d (there m) n = no_dup_split xs ys k d.1 m n

pub no_dup_right : (xs ys : List ℕ) → NoDup (xs ++ ys) → NoDup ys
no_dup_right [] ys d = d
no_dup_right (x ∷ xs) ys d = no_dup_right xs ys d.1

module _ (p : Processes) (layout : Layout p) (ends_ok : Ends p) where
  mutual
    no_dup : (r : Rest) (all own : List Spot) (region : Region p all own) (e : ℕ) → Fits p r all own e → NoDup (front_to r p e)
    no_dup Done all own region e f = (λ m. member_none m, tt)
    no_dup (Run n) all own region e f = subst (λ z. NoDup (location_at z)) (sym f.2) (λ m. member_none m, tt)
    no_dup (Then r b k) all own region e f =
        let w : body_place (body p b) k ≡ location f.1 = ap (λ z. body_place z k) f.2 ∙ ap (λ z. location_or z e) f.3 in
        subst (λ z. NoDup (front_to r p z)) (sym w) (no_dup r all own region (location f.1) f.5)
    no_dup (Again r w) all own region e f =
        subst (λ z. NoDup (front_to r p (location_of z))) (sym f.5) (no_dup r all own region f.1 f.9)
    no_dup (Inside n rs) all own region e f =
        let h = at_spot (stated f.0 f.1 (cooperate f.2)) e f.3 in
        let s = ends_ok.spans f.0 f.1 f.2 e f.3 (region.sub _ f.5) in
        subst (λ z. NoDup (fronts_to rs p (children_at z))) (sym f.4) (no_dups rs f.2 f.3 s.0 (λ y i. region.sub y (region.closed_in h y f.5 (there i))) s.1 f.6)

    pub no_dups : (rs : Rests) (ps : Processes) (c low : ℕ) → ((y : Spot) → Member y (spots_inside ps c) → Member y (all_spots p)) → Spans ps c low → FitsAll p rs ps c → NoDup (fronts_to rs p ps)
    no_dups no_rest ps c low sub s f = tt
    no_dups (rests r rs) no_process c low sub s f = absurd f
    no_dups (rests r rs) (beside (process ss end) ps) c low sub s f =
        let all = spots_along ss end (suc c) in
        let sub' = λ (y : Spot) (i : Member y (spots_inside ps (suc c + length (bodies_in ss)))). sub y (member_right all i) in
        no_dup_append (front_to r p end) (fronts_to rs p ps) (no_dup r all (near_along ss end (suc c)) (along_region p ss end (suc c) (λ y i. sub y (member_left _ i))) end f.0) (no_dups rs ps (suc c + length (bodies_in ss)) (suc end) sub' s.2 f.1)
        (λ k m n.
        let a : k ≤ end = below p layout ends_ok r ss end c low k (λ y i. sub y (member_left _ i)) s.1 f.0 m in
        let b : suc end ≤ k = above p layout ends_ok rs ps _ (suc end) k sub' s.2 f.1 n in
        omega arith)

  -- control, read as in the definition
  mutual
    going_front : (r : Rest) (all own : List Spot) (e e' : ℕ) → Fits p r all own e → IsGoing r → front_to r p e ≡ front r p e'
    going_front Done all own e e' f g = absurd g
    going_front (Run n) all own e e' f g = refl
    going_front (Then r b k) all own e e' f g =
        let w : body_place (body p b) k ≡ location f.1 = ap (λ z. body_place z k) f.2 ∙ ap (λ z. location_or z e) f.3 in
        ap (front_to r p) w ∙ going_front r all own (location f.1) e' f.5 f.4
    going_front (Again r w) all own e e' f g =
        ap (λ z. front_to r p (location_of z)) f.5 ∙ going_front r all own f.1 e' f.9 f.8
    going_front (Inside n rs) all own e e' f g =
        ap (λ z. fronts_to rs p (children_at z)) f.4 ∙ fronts_front rs f.2 f.3 f.6 ∙ sym (ap (λ z. fronts rs p (children_at z)) f.4)

    one_front : (r : Rest) (all own : List Spot) (e : ℕ) → Fits p r all own e → front_to r p e ≡ front r p e
    one_front Done all own e f = refl
    one_front (Run n) all own e f = refl
    one_front (Then r b k) all own e f =
        let w : body_place (body p b) k ≡ location f.1 = ap (λ z. body_place z k) f.2 ∙ ap (λ z. location_or z e) f.3 in
        ap (front_to r p) w ∙ going_front r all own (location f.1) e f.5 f.4
    one_front (Again r w) all own e f = ap (λ z. front_to r p (location_of z)) f.5 ∙ going_front r all own f.1 e f.9 f.8
    one_front (Inside n rs) all own e f = ap (λ z. fronts_to rs p (children_at z)) f.4 ∙ fronts_front rs f.2 f.3 f.6 ∙ sym (ap (λ z. fronts rs p (children_at z)) f.4)

    pub fronts_front : (rs : Rests) (ps : Processes) (c : ℕ) → FitsAll p rs ps c → fronts_to rs p ps ≡ fronts rs p ps
    fronts_front no_rest ps c f = refl
    fronts_front (rests r rs) no_process c f = absurd f
    fronts_front (rests r rs) (beside (process ss end) ps) c f =
        ap (λ z. z ++ fronts_to rs p ps) (one_front r (spots_along ss end (suc c)) (near_along ss end (suc c)) end f.0) ∙ ap (λ z. front r p end ++ z) (fronts_front rs ps (suc c + length (bodies_in ss)) f.1)
