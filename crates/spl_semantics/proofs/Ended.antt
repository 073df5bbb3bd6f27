-- The exit of a cooperation can be taken where control is at all its end locations.
--
-- Components side by side have locations one after another, so an end location leads to the one child that has it.
use Rattle.std.proofs.Common.{◌≡◌, ℕ, suc, ◌+◌, ◌<◌, ◌≤◌, true, List, [], ◌∷◌, map, length, refl, sym, ap, ◌∙◌, subst, ◌⊎◌, inl, inr, arith}
use Rattle.std.specs.Prelude.{if◌then◌else◌}
use Rattle.std.proofs.lemmas.Bool.Decides.{eqb_tells}
use Rattle.st_form.specs.declared.conditions.Part.TheVariants.{Exit}
use Rattle.st_form.specs.declared.conditions.TransName.TheVariants.{Step}
use Rattle.st_program.specs.Tree.{stated, cooperate, Statements, process, Processes, no_process, beside, occurrence, location, action}
use Rattle.st_program.specs.Member.{Member, here, there}
use Rattle.st_program.specs.Spots.{bodies_in, Spot, at_spot, spots_along, spots_inside, all_spots, body}
use Rattle.st_program.specs.Residuals.{Rest, Done, Run, Then, Again, Inside, Rests, no_rest, rests}
use Rattle.spl_semantics.specs.Stores.{Store}
use Rattle.spl_semantics.specs.Steps.{joined_acts, steps, steps_of}
use Rattle.spl_semantics.specs.Going.{Act, act, around, join, back, all_done}
use Rattle.spl_semantics.specs.Control.{children_of, children_at, location_at, ends}
use Rattle.spl_semantics.proofs.Members.{member_none, member_left, member_right, member_cases}
use Rattle.spl_semantics.proofs.Texts.{Has, same_number, near_along, Region, along_region}
use Rattle.basic_laws.proofs.Types.{either}
use Rattle.spl_semantics.proofs.Fits.{location_or, body_place, location_of, front_to, fronts_to, IsGoing, Layout, Fits, FitsAll}
use Rattle.spl_semantics.proofs.Enabled.{Does, does_around, does_left, does_right}

abbrev pub Between : ℕ → ℕ → ℕ → Type 0
Between low high k = (low ≤ k) × (k < high)

-- the locations of a statement and of the ends in it
pub record InSpan (y : Spot) (low high : ℕ) : Type 0 where
  pub own : Between low high (location y.stmt)
  pub inner : (k : ℕ) → Member k (ends (children_of (action y.stmt))) → Between low high k

abbrev pub SpanOf : List Spot → ℕ → ℕ → Type 0
SpanOf all low high = (y : Spot) → Member y all → InSpan y low high

-- children have locations one after another, the end of each behind its own
abbrev pub Spans : Processes → ℕ → ℕ → Type 0
Spans no_process c low = Unit {0}
Spans (beside (process ss end) ps) c low =
    (low ≤ end) × SpanOf (spots_along ss end (suc c)) low end × Spans ps (suc c + length (bodies_in ss)) (suc end)

pub record Ends (p : Processes) : Type 0 where
  pub apart : (x y : Spot) (k : ℕ) → Member x (all_spots p) → Member y (all_spots p) → Member k (ends (children_of (action y.stmt))) → location x.stmt ≡ k → ⊥
  pub once : (x y : Spot) (k : ℕ) → Member x (all_spots p) → Member y (all_spots p) → Member k (ends (children_of (action x.stmt))) → Member k (ends (children_of (action y.stmt))) → occurrence x.stmt ≡ occurrence y.stmt
  pub outer : (x : Spot) (k : ℕ) → Member x (all_spots p) → Member k (ends (children_of (action x.stmt))) → Member k (ends p) → ⊥
  pub spans : (o l : ℕ) (ps : Processes) (e c : ℕ) → Has p (stated o l (cooperate ps)) e c → (low : ℕ) × Spans ps c low
  pub spans_outer : Spans p 0 0
  pub some_process : (o l : ℕ) (e c : ℕ) → Has p (stated o l (cooperate no_process)) e c → ⊥

abbrev pub IsDone : Rest → Type 0
IsDone Done = Unit {0}
IsDone (Run n) = ⊥
IsDone (Then r b k) = ⊥
IsDone (Again r w) = ⊥
IsDone (Inside c rs) = ⊥

not_both : (r : Rest) → IsGoing r → IsDone r → ⊥
not_both Done g d = g
not_both (Run n) g d = d
not_both (Then r b k) g d = d
not_both (Again r w) g d = d
not_both (Inside c rs) g d = d

pub only : {l k : ℕ} → Member l (k ∷ []) → l ≡ k
only (here q) = q
only (there m) = member_none m

module _ (p : Processes) (layout : Layout p) (ends_ok : Ends p) where
  module _ (low high : ℕ) where
    mutual
      pub fr_in : (r : Rest) (all own : List Spot) (region : Region p all own) (span : SpanOf all low high) (e k : ℕ) → Fits p r all own e → Member k (front_to r p e) → Between low high k ⊎ ((k ≡ e) × IsDone r)
      fr_in Done all own region span e k f m = inr (only m, tt)
      fr_in (Run n) all own region span e k f m =
          let q : k ≡ location f.0 = only (subst (λ z. Member k (location_at z)) f.2 m) in
          inl (subst (Between low high) (sym q) (span _ f.3).own)
      fr_in (Then r b j) all own region span e k f m =
          let w : body_place (body p b) j ≡ location f.1 = ap (λ z. body_place z j) f.2 ∙ ap (λ z. location_or z e) f.3 in
          either (fr_in r all own region span (location f.1) k f.5 (subst (λ z. Member k (front_to r p z)) w m)) (λ b. inl b) (λ d. absurd (not_both r f.4 d.1))
      fr_in (Again r w) all own region span e k f m =
          either (fr_in r all own region span f.1 k f.9 (subst (λ z. Member k (front_to r p (location_of z))) f.5 m)) (λ b. inl b) (λ d. absurd (not_both r f.8 d.1))
      fr_in (Inside n rs) all own region span e k f m =
          let h = at_spot (stated f.0 f.1 (cooperate f.2)) e f.3 in
          inl (frs_in rs f.2 f.3 (λ y i. region.sub y (region.closed_in h y f.5 (there i))) (λ y i. span y (region.closed_in h y f.5 (there i))) (span h f.5).inner k f.6 (subst (λ z. Member k (fronts_to rs p (children_at z))) f.4 m))

      pub frs_in : (rs : Rests) (ps : Processes) (c : ℕ) → ((y : Spot) → Member y (spots_inside ps c) → Member y (all_spots p)) → SpanOf (spots_inside ps c) low high → ((k : ℕ) → Member k (ends ps) → Between low high k) → (k : ℕ) → FitsAll p rs ps c → Member k (fronts_to rs p ps) → Between low high k
      frs_in no_rest ps c sub span ends_in k f m = member_none m
      frs_in (rests r rs) no_process c sub span ends_in k f m = absurd f
      frs_in (rests r rs) (beside (process ss end) ps) c sub span ends_in k f m =
          either (member_cases (front_to r p end) m)
          (λ m. either (fr_in r (spots_along ss end (suc c)) (near_along ss end (suc c)) (along_region p ss end (suc c) (λ y i. sub y (member_left _ i))) (λ y i. span y (member_left _ i)) end k f.0 m) (λ b. b) (λ d. subst (Between low high) (sym d.0) (ends_in end (here refl))))
          (λ m. frs_in rs ps (suc c + length (bodies_in ss)) (λ y i. sub y (member_right (spots_along ss end (suc c)) i)) (λ y i. span y (member_right (spots_along ss end (suc c)) i)) (λ k i. ends_in k (there i)) k f.1 m)

  -- control among children is not below their first location
  pub above : (rs : Rests) (ps : Processes) (c low k : ℕ) → ((y : Spot) → Member y (spots_inside ps c) → Member y (all_spots p)) → Spans ps c low → FitsAll p rs ps c → Member k (fronts_to rs p ps) → low ≤ k
  above no_rest ps c low k sub s f m = member_none m
  above (rests r rs) no_process c low k sub s f m = absurd f
  above (rests r rs) (beside (process ss end) ps) c low k sub s f m =
      either (member_cases (front_to r p end) m)
      (λ m. either (fr_in low end r (spots_along ss end (suc c)) (near_along ss end (suc c)) (along_region p ss end (suc c) (λ y i. sub y (member_left _ i))) s.1 end k f.0 m) (λ b. b.0) (λ d. subst (λ z. low ≤ z) (sym d.0) s.0))
      (λ m. let le = above rs ps (suc c + length (bodies_in ss)) (suc end) k (λ y i. sub y (member_right (spots_along ss end (suc c)) i)) s.2 f.1 m in let b : low ≤ end = s.0 in omega arith)

  ends_above : (ps : Processes) (c low k : ℕ) → Spans ps c low → Member k (ends ps) → low ≤ k
  ends_above no_process c low k s m = member_none m
  ends_above (beside (process ss end) ps) c low k s (here q) = subst (λ z. low ≤ z) (sym q) s.0
  ends_above (beside (process ss end) ps) c low k s (there m) =
      let le = ends_above ps _ (suc end) k s.2 m in let b : low ≤ end = s.0 in omega arith

  -- where control is at most at the end of a child
  pub below : (r : Rest) (ss : Statements) (end c low k : ℕ) → ((y : Spot) → Member y (spots_along ss end (suc c)) → Member y (all_spots p)) → SpanOf (spots_along ss end (suc c)) low end → Fits p r (spots_along ss end (suc c)) (near_along ss end (suc c)) end → Member k (front_to r p end) → k ≤ end
  below r ss end c low k sub s f m =
      either (fr_in low end r (spots_along ss end (suc c)) (near_along ss end (suc c)) (along_region p ss end (suc c) sub) s end k f m) (λ b. let h : k < end = b.1 in omega arith) (λ d. let h : k ≡ end = d.0 in omega arith)

  done_if : (r : Rest) (rs : Rests) → IsDone r → all_done rs ≡ true → all_done (rests r rs) ≡ true
  done_if Done rs d q = q
  done_if (Run n) rs d q = absurd d
  done_if (Then r b k) rs d q = absurd d
  done_if (Again r w) rs d q = absurd d
  done_if (Inside c r) rs d q = absurd d

  all_ended : (rs : Rests) (ps : Processes) (c low : ℕ) → ((y : Spot) → Member y (spots_inside ps c) → Member y (all_spots p)) → Spans ps c low → FitsAll p rs ps c → ((k : ℕ) → Member k (ends ps) → Member k (fronts_to rs p ps)) → all_done rs ≡ true
  all_ended no_rest no_process c low sub s f at = refl
  all_ended no_rest (beside (process ss end) ps) c low sub s f at = absurd f
  all_ended (rests r rs) no_process c low sub s f at = absurd f
  all_ended (rests r rs) (beside (process ss end) ps) c low sub s f at =
      let sub' = λ (y : Spot) (i : Member y (spots_inside ps (suc c + length (bodies_in ss)))). sub y (member_right (spots_along ss end (suc c)) i) in
      done_if r rs
      (either (member_cases (front_to r p end) (at end (here refl)))
      (λ m. either (fr_in low end r (spots_along ss end (suc c)) (near_along ss end (suc c)) (along_region p ss end (suc c) (λ y i. sub y (member_left _ i))) s.1 end end f.0 m) (λ b. let h : end < end = b.1 in absurd (omega arith)) (λ d. d.1))
      (λ m. let h : suc end ≤ end = above rs ps _ (suc end) end sub' s.2 f.1 m in absurd (omega arith)))
      (all_ended rs ps (suc c + length (bodies_in ss)) (suc end) sub' s.2 f.1
      (λ k i. either (member_cases (front_to r p end) (at k (there i)))
      (λ m. let h = below r ss end c low k (λ y i. sub y (member_left _ i)) s.1 f.0 m in let g = ends_above ps _ (suc end) k s.2 i in absurd (omega arith))
      (λ m. m)))

  -- the cooperation x
  module _ (store : Store) (o l e0 c0 : ℕ) (children : Processes) (x_in : Has p (stated o l (cooperate children)) e0 c0) where
    abbrev the_coop : Spot
    the_coop = at_spot (stated o l (cooperate children)) e0 c0

    -- an end of x where control is: x stands in this part of the text
    mutual
      owner : (r : Rest) (all own : List Spot) (region : Region p all own) (e k : ℕ) → Fits p r all own e → Member k (ends children) → Member k (front_to r p e) → (k ≡ e → IsGoing r) → Member the_coop all
      owner Done all own region e k f i m g = absurd (g (only m))
      owner (Run n) all own region e k f i m g =
          let q : k ≡ location f.0 = only (subst (λ z. Member k (location_at z)) f.2 m) in
          absurd (ends_ok.apart (at_spot f.0 e f.1) the_coop k (region.sub _ f.3) x_in i (sym q))
      owner (Then r b j) all own region e k f i m g =
          let w : body_place (body p b) j ≡ location f.1 = ap (λ z. body_place z j) f.2 ∙ ap (λ z. location_or z e) f.3 in
          owner r all own region (location f.1) k f.5 i (subst (λ z. Member k (front_to r p z)) w m) (λ q. f.4)
      owner (Again r w) all own region e k f i m g =
          owner r all own region f.1 k f.9 i (subst (λ z. Member k (front_to r p (location_of z))) f.5 m) (λ q. f.8)
      owner (Inside n rs) all own region e k f i m g =
          let h = at_spot (stated f.0 f.1 (cooperate f.2)) e f.3 in
          either (owners rs f.2 f.3 (λ y i. region.sub y (region.closed_in h y f.5 (there i))) k f.6 i (subst (λ z. Member k (fronts_to rs p (children_at z))) f.4 m))
          (λ m. region.closed_in h the_coop f.5 (there m))
          (λ j. let same : the_coop ≡ h = same_number p layout.numbered the_coop h x_in (region.sub _ f.5) (ends_ok.once the_coop h k x_in (region.sub _ f.5) i j) in
          subst (λ z. Member z all) (sym same) f.5)

      -- x stands in a child, or the end is a child's
      owners : (rs : Rests) (ps : Processes) (c : ℕ) → ((y : Spot) → Member y (spots_inside ps c) → Member y (all_spots p)) → (k : ℕ) → FitsAll p rs ps c → Member k (ends children) → Member k (fronts_to rs p ps) → Member the_coop (spots_inside ps c) ⊎ Member k (ends ps)
      owners no_rest ps c sub k f i m = member_none m
      owners (rests r rs) no_process c sub k f i m = absurd f
      owners (rests r rs) (beside (process ss end) ps) c sub k f i m =
          either (member_cases (front_to r p end) m)
          (λ m. either (eqb_tells k end)
          (λ q. inr (here q.1))
          (λ q. inl (member_left _ (owner r (spots_along ss end (suc c)) (near_along ss end (suc c)) (along_region p ss end (suc c) (λ y i. sub y (member_left _ i))) end k f.0 i m (λ z. absurd (q.1 z))))))
          (λ m. either (owners rs ps (suc c + length (bodies_in ss)) (λ y i. sub y (member_right (spots_along ss end (suc c)) i)) k f.1 i m) (λ h. inl (member_right (spots_along ss end (suc c)) h)) (λ h. inr (there h)))

    abbrev the_exit : Act Rest
    the_exit = act (Step o Exit) 1 Done store

    abbrev AllAt : List ℕ → Type 0
    AllAt front = (k : ℕ) → Member k (ends children) → Member k front

    -- the exit of x itself
    own_exit : (n : ℕ) (rs : Rests) → all_done rs ≡ true → n ≡ o → Does (if all_done rs then act (Step n Exit) 1 Done store ∷ [] else []) the_exit
    own_exit n rs d q =
        subst (λ b. Does (if b then act (Step n Exit) 1 Done store ∷ [] else []) the_exit) (sym d) record { step = act (Step n Exit) 1 Done store; is_in = here refl; same = record { name = ap (λ z. Step z Exit) q; mode = refl; store = refl } }

    mutual
      pub exits : (r : Rest) (all own : List Spot) (region : Region p all own) (e : ℕ) → Fits p r all own e → (k1 : ℕ) → Member k1 (ends children) → AllAt (front_to r p e) → ((k : ℕ) → Member k (ends children) → k ≡ e → IsGoing r) → Does (steps r p store) the_exit
      exits Done all own region e f k1 i at g = absurd (g k1 i (only (at k1 i)))
      exits (Run n) all own region e f k1 i at g =
          let q : k1 ≡ location f.0 = only (subst (λ z. Member k1 (location_at z)) f.2 (at k1 i)) in
          absurd (ends_ok.apart (at_spot f.0 e f.1) the_coop k1 (region.sub _ f.3) x_in i (sym q))
      exits (Then r n j) all own region e f k1 i at g =
          let w : body_place (body p n) j ≡ location f.1 = ap (λ z. body_place z j) f.2 ∙ ap (λ z. location_or z e) f.3 in
          subst (λ z. Does (joined_acts z n j (steps r p store)) the_exit) (sym f.2)
          (does_around (λ z. join f.0 z n j) (steps r p store) (exits r all own region (location f.1) f.5 k1 i (λ k i. subst (λ z. Member k (front_to r p z)) w (at k i)) (λ k i q. f.4)))
      exits (Again r w) all own region e f k1 i at g =
          does_around (back w) (steps r p store) (exits r all own region f.1 f.9 k1 i (λ k i. subst (λ z. Member k (front_to r p (location_of z))) f.5 (at k i)) (λ k i q. f.8))
      exits (Inside n rs) all own region e f k1 i at g =
          let h = at_spot (stated f.0 f.1 (cooperate f.2)) e f.3 in
          let h_in = region.sub _ f.5 in
          let sub = λ (y : Spot) (i : Member y (spots_inside f.2 f.3)). region.sub y (region.closed_in h y f.5 (there i)) in
          let s = ends_ok.spans f.0 f.1 f.2 e f.3 h_in in
          let at' = λ (k : ℕ) (i : Member k (ends children)). subst (λ z. Member k (fronts_to rs p (children_at z))) f.4 (at k i) in
          let named : n ≡ f.0 = sym (layout.numbered n h f.4) in
          either (eqb_tells o f.0)
          (λ q.
          let same : the_coop ≡ h = same_number p layout.numbered the_coop h x_in h_in q.1 in
          let all_at : (k : ℕ) → Member k (ends f.2) → Member k (fronts_to rs p f.2) = λ k i. at' k (subst (λ z. Member k (ends (children_of (action z.stmt)))) (sym same) i) in
          does_right (map (around (Inside n)) (steps_of rs p store)) _ (own_exit n rs (all_ended rs f.2 f.3 s.0 sub s.1 f.6 all_at) (named ∙ sym q.1)))
          (λ q.
          does_left _ _ (does_around (Inside n) (steps_of rs p store) (all_exits rs f.2 f.3 s.0 sub s.1 f.6 k1 i at' (λ k i j. q.1 (ends_ok.once the_coop h k x_in h_in i j)))))

      pub all_exits : (rs : Rests) (ps : Processes) (c low : ℕ) → ((y : Spot) → Member y (spots_inside ps c) → Member y (all_spots p)) → Spans ps c low → FitsAll p rs ps c → (k1 : ℕ) → Member k1 (ends children) → AllAt (fronts_to rs p ps) → ((k : ℕ) → Member k (ends children) → Member k (ends ps) → ⊥) → Does (steps_of rs p store) the_exit
      all_exits no_rest ps c low sub s f k1 i at diff = member_none (at k1 i)
      all_exits (rests r rs) no_process c low sub s f k1 i at diff = absurd f
      all_exits (rests r rs) (beside (process ss end) ps) c low sub s f k1 i at diff =
          let all = spots_along ss end (suc c) in
          let own = near_along ss end (suc c) in
          let region = along_region p ss end (suc c) (λ y i. sub y (member_left _ i)) in
          let sub' = λ (y : Spot) (i : Member y (spots_inside ps (suc c + length (bodies_in ss)))). sub y (member_right all i) in
          let not_end : (k : ℕ) → Member k (ends children) → k ≡ end → IsGoing r = λ k i q. absurd (diff k i (here q)) in
          either (member_cases (front_to r p end) (at k1 i))
          (λ m.
          -- x stands in this child, so all its ends do
          let x_here = owner r all own region end k1 f.0 i m (not_end k1 i) in
          let inside = (s.1 the_coop x_here).inner in
          does_left _ _ (does_around (λ z. rests z rs) (steps r p store) (exits r all own region end f.0 k1 i
          (λ k i. either (member_cases (front_to r p end) (at k i)) (λ m. m) (λ m. let h : suc end ≤ k = above rs ps _ (suc end) k sub' s.2 f.1 m in let b : k < end = (inside k i).1 in absurd (omega arith)))
          not_end)))
          (λ m.
          let high : suc end ≤ k1 = above rs ps _ (suc end) k1 sub' s.2 f.1 m in
          does_right (map (around (λ z. rests z rs)) (steps r p store)) _ (does_around (λ z. rests r z) (steps_of rs p store) (all_exits rs ps (suc c + length (bodies_in ss)) (suc end) sub' s.2 f.1 k1 i
          (λ k j. either (member_cases (front_to r p end) (at k j))
          (λ m. let x_here = owner r all own region end k f.0 j m (not_end k j) in let b : k1 < end = ((s.1 the_coop x_here).inner k1 i).1 in absurd (omega arith))
          (λ m. m))
          (λ k i j. diff k i (there j)))))
