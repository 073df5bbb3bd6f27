-- What stays so of a text while more is appended, and how parts that are written one behind the other come to one.
use Rattle.std.proofs.Common.{◌≡◌, ℕ, ◌+◌, ◌-◌, ◌<◌, ◌≤◌, ◌⊎◌, inl, inr, Bool, true, false, List, ◌∷◌, ◌++◌, length, take, drop, get_or, refl, sym, ap, ◌∙◌, subst, arith, append_assoc, length-append, length-drop, take_all, codes}
use Rattle.std.specs.Prelude.{Option, Some, None, slice_index_or, slice_range}
use Rattle.std.proofs.lemmas.List.{take-append-le, drop-append-le, drop_at, drop_more}
use Rattle.st_certificate.specs.Tree.{Tree, Trees, branch}
use Rattle.cert_text.specs.Spelling.{tree_text, trees_text}
use Rattle.tree_table.specs.Table.{listed, step_of, tree}
use Rattle.tree_table.specs.declared.nodes.Step.{Step}
use Rattle.tree_table.specs.declared.nodes.Step.TheVariants.{Case, Truth, Split}
use Rattle.tree_writing.specs.declared.memo.Place.{Place}
use Rattle.tree_writing.specs.Branches.{step_text}
use Rattle.tree_writing.specs.Standing.{AreWithin, Goes, Holds, IsPart, IsPlace, IsWritten}

-- a part of a text stays where more is appended
part-longer : (text more : List ℕ) (from to : ℕ) → from ≤ to → to ≤ length text → slice_range (text ++ more) from to ≡ slice_range text from to
part-longer text more from to order within =
    ap (take (to - from)) (drop-append-le from text more (omega (arith, order, within)))
    ∙ take-append-le (to - from) (drop from text) more (omega (arith, order, within, length-drop from text))

-- what is appended is the part behind
part-behind : (text piece : List ℕ) → slice_range (text ++ piece) (length text) (length (text ++ piece)) ≡ piece
part-behind text piece =
    ap (take (length (text ++ piece) - length text)) (drop_at text piece (length text) refl)
    ∙ take_all (length (text ++ piece) - length text) piece (omega (arith, length-append text piece))

is-part-longer : (text more : List ℕ) (p : Place) → IsPart text p → IsPart (text ++ more) p
is-part-longer text more p h = (h.0, omega (arith, h.1, length-append text more))

module _ (ts : List Tree) (start : ℕ) where
  place-longer : (text more : List ℕ) (n : ℕ) (p : Place) → IsPlace ts start text n p → IsPlace ts start (text ++ more) n p
  place-longer text more n p h = record {
    part = is-part-longer text more p h.part;
    same = λ behind. part-longer text more p.from p.to h.part.0 h.part.1 ∙ h.same behind;
  }

  pub holds-longer : (text more : List ℕ) (kept : List (Option Place)) → Holds ts start text kept → Holds ts start (text ++ more) kept
  holds-longer text more kept h = record { each = λ n p e. place-longer text more n p (h.each n p e) }

  -- the same, where the longer text has a name
  pub holds-in : (text more now : List ℕ) (kept : List (Option Place)) → now ≡ text ++ more → Holds ts start text kept → Holds ts start now kept
  holds-in text more now kept e h = subst (λ (t : List ℕ). Holds ts start t kept) (sym e) (holds-longer text more kept h)

  holds-either : (text : List ℕ) (old : List (Option Place)) (number : ℕ) (place : Place) (n : ℕ) (p : Place) → Holds ts start text old → IsPlace ts start text number place
      → (slice_index_or old n None ≡ Some p) ⊎ ((n ≡ number) × (p ≡ place)) → IsPlace ts start text n p
  holds-either text old number place n p h new (inl e) = h.each n p e
  holds-either text old number place n p h new (inr e) = subst (λ (m : ℕ). IsPlace ts start text m p) (sym e.0) (subst (λ (q : Place). IsPlace ts start text number q) (sym e.1) new)

  -- what was written is kept
  pub holds-kept : (text now : List ℕ) (old new : List (Option Place)) (number : ℕ) (place : Place) → now ≡ text ++ tree_text (tree ts number) → place.from ≡ length text → place.to ≡ length now → Holds ts start now old
      → ((n : ℕ) (p : Place) → slice_index_or new n None ≡ Some p → (slice_index_or old n None ≡ Some p) ⊎ ((n ≡ number) × (p ≡ place))) → Holds ts start now new
  holds-kept text now old new number place e from to h either = record { each = λ n p s. holds-either now old number place n p h there (either n p s) } where
    there : IsPlace ts start now number place
    there = record {
      part = (omega (arith, from, to, ap length e, length-append text (tree_text (tree ts number))), omega (arith, to));
      same = λ behind.
          ap (λ (a : ℕ). slice_range now a place.to) from
          ∙ ap (λ (b : ℕ). slice_range now (length text) b) to
          ∙ ap (λ (t : List ℕ). slice_range t (length text) (length t)) e
          ∙ part-behind text (tree_text (tree ts number));
    }

  -- a tree is copied
  pub copied : (text now piece : List ℕ) (kept : List (Option Place)) (p : Place) (fits : Bool) → Holds ts start text kept → slice_range text p.from p.to ≡ piece
      → IsWritten (text ++ slice_range text p.from p.to) now fits → Goes ts start (text ++ piece) now kept fits
  copied text now piece kept p true h same w =
      let e : now ≡ text ++ piece = w.0 ∙ ap (λ (s : List ℕ). text ++ s) same in
      (e, omega (arith, w.1, ap (λ (s : List ℕ). length (text ++ s)) same), holds-in text piece now kept e h)
  copied text now piece kept p false h same w = omega (arith, w, ap (λ (s : List ℕ). length (text ++ s)) same)

  -- what was written is short enough, or it isn't
  pub ends : (whole now : List ℕ) (kept : List (Option Place)) (fits : Bool) → now ≡ whole → Holds ts start now kept → (fits ≡ true → length now ≤ 268435456) → (fits ≡ false → 268435456 < length now)
      → Goes ts start whole now kept fits
  ends whole now kept true e h short long = (e, omega (arith, short refl, ap length e), h)
  ends whole now kept false e h short long = omega (arith, long refl, ap length e)

-- what is too long is so with more behind it
pub too-long : (text more : List ℕ) → 268435456 < length text → 268435456 < length (text ++ more)
too-long text more h = omega (arith, h, length-append text more)

-- nothing was written in a block that begins
pub nothing-stands : (ts : List Tree) (text : List ℕ) (kept : List (Option Place)) → AreWithin text kept → Holds ts (length text) text kept
nothing-stands ts text kept h = record {
  each = λ n p e. record { part = h.each n p e; same = λ behind. (let there = h.each n p e in absurd (omega (arith, behind, there.0, there.1))) };
}

pub within-longer : (ts : List Tree) (start : ℕ) (text : List ℕ) (kept : List (Option Place)) → Holds ts start text kept → AreWithin text kept
within-longer ts start text kept h = record { each = λ n p e. (h.each n p e).part }

-- what is there is there where more is appended
pub within-more : (text more now : List ℕ) (kept : List (Option Place)) → now ≡ text ++ more → AreWithin text kept → AreWithin now kept
within-more text more now kept e h = record { each = λ n p s. subst (λ (t : List ℕ). IsPart t p) (sym e) (is-part-longer text more p (h.each n p s)) }

-- what a branch is made of
branch-text : (s : Step) (us : Trees) → tree_text (branch (step_of s) us) ≡ (step_text s ++ trees_text us) ++ codes "}"
branch-text (Case c) us = refl
branch-text (Truth v) us = refl
branch-text (Split k) us = refl

pub branch-is : (s : Step) (us : Trees) (text head parts whole : List ℕ) → head ≡ text ++ step_text s → parts ≡ head ++ trees_text us → whole ≡ parts ++ codes "}" → whole ≡ text ++ tree_text (branch (step_of s) us)
branch-is s us text head parts whole a b c =
    c
    ∙ ap (λ (l : List ℕ). l ++ codes "}") (b ∙ ap (λ (l : List ℕ). l ++ trees_text us) a ∙ append_assoc text (step_text s) (trees_text us))
    ∙ append_assoc text (step_text s ++ trees_text us) (codes "}")
    ∙ ap (λ (l : List ℕ). text ++ l) (sym (branch-text s us))

-- the next of some trees
pub parts-next : (ts : List Tree) (parts : List ℕ) (i part d : ℕ) (before now next : List ℕ) → i < length parts → part ≡ get_or parts i d → now ≡ before ++ tree_text (tree ts part) → next ≡ now ++ codes " "
    → next ++ trees_text (listed ts (drop (i + 1) parts)) ≡ before ++ trees_text (listed ts (drop i parts))
parts-next ts parts i part d before now next below is a b =
    let more = trees_text (listed ts (drop (i + 1) parts)) in
    let here = tree_text (tree ts part) in
    let rest : drop i parts ≡ part ∷ drop (i + 1) parts = drop_more parts i d below ∙ ap (λ (p : ℕ). p ∷ drop (i + 1) parts) (sym is) in
    ap (λ (l : List ℕ). l ++ more) (b ∙ ap (λ (l : List ℕ). l ++ codes " ") a ∙ append_assoc before here (codes " "))
    ∙ append_assoc before (here ++ codes " ") more
    ∙ ap (λ (ps : List ℕ). before ++ trees_text (listed ts ps)) (sym rest)

pub ruleset goings = (holds-in, nothing-stands)
