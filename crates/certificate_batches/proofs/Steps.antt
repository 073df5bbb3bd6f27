-- Steps that change nothing of what all comes to.
use Rattle.std.proofs.Common.{◌≡◌, ◌∙◌, ℕ, ◌+◌, ◌<◌, List, [], ◌∷◌, ◌++◌, length, drop, refl, sym, ap, subst, arith, length-drop, append-nil, append_assoc, Bool}
use Rattle.std.specs.Prelude.{true, false, Option, None, Some, IsSome}
use Rattle.std.specs.declared.vec.Vec.{Vec}
use Rattle.std.specs.declared.alloc.Global.{Global}
use Rattle.std.proofs.lemmas.List.{map-append, length-map, nil_from_length}
use Rattle.st_form.specs.Shared.{plain_condition}
use Rattle.st_form.specs.declared.conditions.Condition.{Condition}
use Rattle.st_certificate.specs.Tree.{Tree}
use Rattle.st_certificate.specs.Plain.{plain as tree_of}
use Rattle.farkas_check.specs.Problem.{Setting}
use Rattle.cert_text.specs.declared.reader.Block.{Block}
use Rattle.cert_text.specs.Held.{Held}
use Rattle.cert_laws.specs.Laws.{closed, MayFollow}
use Rattle.cert_text.specs.Blank.{first_place, past_blanks}
use Rattle.block_laws.specs.Checked.{checked_from, pending_from}
use Rattle.block_laws.specs.Plain.{trees, plains}
use Rattle.certificate_batches.specs.declared.batches.Batches.{Batches}
use Rattle.certificate_batches.specs.Finding.{finding_of}
use Rattle.certificate_batches.specs.declared.finding.Finding.{Finding}
use Rattle.certificate_batches.specs.declared.finding.Finding.TheVariants.{Discharged}
use Rattle.certificate_batches.specs.Turns.{trailing, AreDropped, IsTaken}
use Rattle.certificate_batches.specs.Following.{IsPassed}
use Rattle.certificate_batches.specs.Batches.{rest_found, comes_to, Keeps, AreInOrder, AreAllDischarged}
use Rattle.certificate_batches.proofs.Pending.{unsettled_is, settled_is}
use Rattle.basic_laws.proofs.Truths.{no_truth}

-- one step after the other
pub keeps_then : (k : Setting) (cs : List Condition) (a b c : Batches) → b.reader.finished ≡ a.reader.finished → Keeps k cs a b → Keeps k cs b c → Keeps k cs a c
keeps_then k cs a b c same first second rest may = second rest (λ e. may (sym same ∙ e)) ∙ first rest may

-- a block more waits
module _ (k : Setting) (cs : List Condition) (b : Batches) (r : Held) (bs : Vec Block Global) (one : Block) (none : b.settled ≡ None) (order : AreInOrder cs b)
    (left : b.discharged + length b.blocks.items < length cs) (taken : IsTaken b.reader r one) (put : bs.items ≡ b.blocks.items ++ one ∷ []) where
  pub taken_keeps : Keeps k cs b (record b { reader = r; blocks = bs })
  taken_keeps rest may =
      let behind = drop b.discharged cs in
      let short : length (trees b.blocks.items) < length (plains behind) =
      omega (arith, left, order.within, length-map b.blocks.items (λ (x : Block). tree_of x.certificate), length-map behind plain_condition, length-drop b.discharged cs) in
      let all : trees bs.items ≡ trees b.blocks.items ++ tree_of one.certificate ∷ [] = ap trees put ∙ map-append (λ (x : Block). tree_of x.certificate) b.blocks.items (one ∷ []) in
      unsettled_is k cs (record b { reader = r; blocks = bs }) rest none
      ∙ ap (λ (ts : List Tree). finding_of (pending_from k (b.discharged + 1) (plains behind) ts (closed r rest))) all
      ∙ ap finding_of (taken.waits k (b.discharged + 1) (plains behind) (trees b.blocks.items) rest may short)
      ∙ sym (unsettled_is k cs b rest none)

-- the next condition is discharged by a block that was taken unread
module _ (k : Setting) (cs : List Condition) (b : Batches) (r : Held) (empty : b.blocks.items ≡ []) (passed : IsPassed k cs b.discharged b.reader r) where
  pub passed_keeps : b.settled ≡ None → Keeps k cs b (record b { reader = r; discharged = b.discharged + 1 })
  passed_keeps none rest may =
      let d = b.discharged in
      unsettled_is k cs (record b { reader = r; discharged = d + 1 }) rest none
      ∙ ap (λ (bs : List Block). finding_of (pending_from k (d + 1 + 1) (plains (drop (d + 1) cs)) (trees bs) (closed r rest))) empty
      ∙ ap finding_of (passed.discharged (d + 1) rest)
      ∙ sym (unsettled_is k cs b rest none ∙ ap (λ (bs : List Block). finding_of (pending_from k (d + 1) (plains (drop d cs)) (trees bs) (closed b.reader rest))) empty)

  pub passed_order : AreInOrder cs b → b.discharged + length b.blocks.items < length cs → AreInOrder cs (record b { reader = r; discharged = b.discharged + 1 })
  passed_order order left = record {
    within = omega (arith, left);
    number = omega (arith, passed.number, order.number);
    limited = order.limited;
    among = order.among;
  }

-- nothing was taken
module _ (k : Setting) (cs : List Condition) (b : Batches) (r : Held) (same : r ≡ b.reader) where
  pub same_keeps : Keeps k cs b (record b { reader = r })
  same_keeps rest may = ap (λ (x : Held). comes_to k cs (record b { reader = x }) rest) same

  pub same_order : AreInOrder cs b → AreInOrder cs (record b { reader = r })
  same_order order = subst (λ (x : Held). AreInOrder cs (record b { reader = x })) (sym same) order

-- no condition is left: what all comes to stands behind the last block
module _ (k : Setting) (cs : List Condition) (b : Batches) (all : AreAllDischarged cs b) where
  none_left : drop b.discharged cs ≡ []
  none_left = nil_from_length (drop b.discharged cs) (omega (arith, all.all, length-drop b.discharged cs))

  pub all_is : (rest : List ℕ) → comes_to k cs b rest ≡ Discharged (trailing b.reader rest)
  all_is rest =
      let h = closed b.reader rest in
      unsettled_is k cs b rest all.unsettled
      ∙ ap (λ (bs : List Block). finding_of (pending_from k (b.discharged + 1) (plains (drop b.discharged cs)) (trees bs) h)) all.none_waits
      ∙ ap (λ (l : List Condition). finding_of (checked_from k (b.discharged + 1) (plains l) h)) none_left

  pub all_with : (r : Held) → AreAllDischarged cs (record b { reader = r })
  all_with r = record { unsettled = all.unsettled; none_waits = all.none_waits; all = all.all }

-- the text ends where it is
closed_already : (h : Held) → h.finished ≡ true → closed h [] ≡ h
closed_already h done = ap (λ (bs : List ℕ). record h { bytes = bs; finished = true }) (append-nil h.bytes) ∙ ap (λ (f : Bool). record h { finished = f }) (sym done)

pub trailing_at_end : (h now : Held) (o : Option ℕ) → h.finished ≡ true → now ≡ past_blanks h → o ≡ first_place now → Discharged o ≡ Discharged (trailing h [])
trailing_at_end h now o done left is = ap Discharged (is ∙ ap first_place left ∙ sym (ap (λ (x : Held). first_place (past_blanks x)) (closed_already h done)))

pub finish_same : (k : Setting) (cs : List Condition) (b : Batches) (r : Held) → r ≡ record b.reader { finished = true } → comes_to k cs (record b { reader = r }) [] ≡ comes_to k cs b []
unfolding comes_to
finish_same k cs b r is =
    ap (λ (x : Held). rest_found k b.settled (b.discharged + 1) (plains (drop b.discharged cs)) (trees b.blocks.items) (closed x [])) is

-- a further piece has come
pub push_same : (k : Setting) (cs : List Condition) (b : Batches) (r : Held) (piece : List ℕ) → r ≡ record b.reader { bytes = b.reader.bytes ++ piece }
    → (rest : List ℕ) → comes_to k cs (record b { reader = r }) rest ≡ comes_to k cs b (piece ++ rest)
unfolding comes_to
push_same k cs b r piece is rest =
    let h = b.reader in
    ap (λ (x : Held). rest_found k b.settled (b.discharged + 1) (plains (drop b.discharged cs)) (trees b.blocks.items) (closed x rest)) is
    ∙ ap (λ (bytes : List ℕ). rest_found k b.settled (b.discharged + 1) (plains (drop b.discharged cs)) (trees b.blocks.items) (record h { bytes = bytes; finished = true })) (append_assoc h.bytes piece rest)

pub settled_same : (k : Setting) (cs : List Condition) (b : Batches) → IsSome b.settled → (rest more : List ℕ) → comes_to k cs b rest ≡ comes_to k cs b more
settled_same k cs b some rest more = by b.settled refl some where
  by : (o : Option Finding) → b.settled ≡ o → IsSome o → comes_to k cs b rest ≡ comes_to k cs b more
  by None is some = absurd (no_truth some)
  by (Some f) is some = settled_is k cs b rest f is ∙ sym (settled_is k cs b more f is)

-- anything may follow an open text
pub anything : (h : Held) (rest : List ℕ) → h.finished ≡ false → MayFollow h rest
anything h rest unfinished done = absurd (no_truth (sym unfinished ∙ done))

-- nothing but blanks was dropped, or it is settled what isn't blank
pub keeps_dropped : (k : Setting) (cs : List Condition) (a b : Batches) → AreAllDischarged cs a → AreAllDischarged cs b → AreDropped a.reader b.reader → Keeps k cs a b
keeps_dropped k cs a b all now dropped rest may = all_is k cs b now rest ∙ ap Discharged (dropped.same rest) ∙ sym (all_is k cs a all rest)

pub keeps_settled : (k : Setting) (cs : List Condition) (a b : Batches) (place : ℕ) → AreAllDischarged cs a → b.settled ≡ Some (Discharged (Some place))
    → ((rest : List ℕ) → trailing a.reader rest ≡ Some place) → Keeps k cs a b
keeps_settled k cs a b place all is told rest may = settled_is k cs b rest (Discharged (Some place)) is ∙ ap Discharged (sym (told rest)) ∙ sym (all_is k cs a all rest)
