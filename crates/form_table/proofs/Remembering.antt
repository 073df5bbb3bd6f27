-- What is remembered stays right while a table grows.
use Rattle.std.proofs.Common.{◌≡◌, ◌⊎◌, ℕ, ◌<◌, true, List, [], length, get_or, ap, subst, ◌∙◌, sym, Option, Some, None, arith, ⊎_elim}
use Rattle.std.specs.Prelude.{replicate, slice_index_or, slice_set}
use Rattle.std.specs.Int.{bit_at}
use Rattle.std.proofs.lemmas.Nat.Bits.{bit_at-zero}
use Rattle.std.proofs.lemmas.List.Elements.{All-weaker, All-set, All-replicate, All-nil}
use Rattle.st_form.specs.Formula.{Formula, more, none}
use Rattle.st_form.specs.Simple.{parts, simple}
use Rattle.form_table.specs.Table.{formula, Is, Extends}
use Rattle.form_table.specs.Contents.{Choice, decision_at}
use Rattle.form_table.specs.Memory.{AreEntries, IsEntry, IsFree, Last, Lasts, Remembers}
use Rattle.form_table.specs.declared.memos.Entry.{Entry}
use Rattle.form_table.specs.declared.memos.Memo.{Memo}
use Rattle.form_table.proofs.Making.{is-later}

pub entry-later : (ts us : List Formula) (cs : List Choice) (x : Entry) → Extends ts us → IsEntry ts cs x → IsEntry us cs x
entry-later ts us cs x e h =
    let k : Is us x.simple (simple (decision_at cs x.decision) (formula ts x.number) true) = is-later ts us x.simple _ e h.1 in
    let same : formula ts x.number ≡ formula us x.number = sym (e.same x.number h.0) in
    (omega (arith, h.0, e.longer), (k.0, k.1 ∙ ap (λ g. simple (decision_at cs x.decision) g true) same))

free-later : (ts us : List Formula) (cs : List Choice) (o : Option Entry) → Extends ts us → IsFree ts cs o → IsFree us cs o
free-later ts us cs None e h = tt
free-later ts us cs (Some x) e h = entry-later ts us cs x e h

pub entries-later : (ts us : List Formula) (cs : List Choice) (es : List (Option Entry)) → Extends ts us → AreEntries ts cs es → AreEntries us cs es
entries-later ts us cs es e h = record { each = All-weaker (λ o. IsFree ts cs o) (λ o. IsFree us cs o) (λ o k. free-later ts us cs o e k) es h.each }

pub entries-nothing : (ts : List Formula) (cs : List Choice) (n : ℕ) → AreEntries ts cs (replicate n None)
entries-nothing ts cs n = record { each = All-replicate (λ o. IsFree ts cs o) n None tt }

pub entries-fresh : (ts : List Formula) (cs : List Choice) (es : List (Option Entry)) (n : ℕ) → es ≡ replicate n None → AreEntries ts cs es
entries-fresh ts cs es n e =
    let P : List (Option Entry) → Type 0 = λ l. AreEntries ts cs l in
    subst P (sym e) (entries-nothing ts cs n)

pub entries-none : (ts : List Formula) (cs : List Choice) (es : List (Option Entry)) → es ≡ [] → AreEntries ts cs es
entries-none ts cs es e =
    let P : List (Option Entry) → Type 0 = λ l. AreEntries ts cs l in
    subst P (sym e) (record { each = All-nil (λ o. IsFree ts cs o) })

pub entries-set : (ts : List Formula) (cs : List Choice) (es : List (Option Entry)) (i : ℕ) (x : Entry) → AreEntries ts cs es → IsEntry ts cs x → AreEntries ts cs (slice_set es i (Some x))
entries-set ts cs es i x h k = record { each = All-set (λ o. IsFree ts cs o) es i (Some x) k h.each }

pub remembered-at : (ts : List Formula) (cs : List Choice) (es : List (Option Entry)) (i : ℕ) (o d : Option Entry) (x : Entry) → i < length es → o ≡ get_or es i d → o ≡ Some x → AreEntries ts cs es → IsEntry ts cs x
remembered-at ts cs es i o d x l e s h =
    let P : Option Entry → Type 0 = λ p. IsFree ts cs p in
    subst P s (subst P (sym e) (h.each i d l))

-- ---- formulas that last
lasts-later : (ts us : List Formula) (cs : List Choice) (d n : ℕ) → Extends ts us → Lasts ts cs d n → Lasts us cs d n
lasts-later ts us cs d n e h =
    let same : formula us n ≡ formula ts n = e.same n h.there in
    record {
      there = omega (arith, h.there, e.longer);
      same = ap (λ f. simple (decision_at cs d) f true) same ∙ h.same ∙ sym same;
      single = ap (parts true) same ∙ h.single ∙ ap (λ f. Some (more f none)) (sym same);
    }

pub last-later : (ts us : List Formula) (cs : List Choice) (ws : List ℕ) → Extends ts us → Last ts cs ws → Last us cs ws
last-later ts us cs ws e h = record { each = λ n d b. lasts-later ts us cs d n e (h.each n d b) }

pub last-none : (ts : List Formula) (cs : List Choice) (ws : List ℕ) → ws ≡ [] → Last ts cs ws
last-none ts cs ws e = subst (Last ts cs) (sym e) (record { each = λ n d b. absurd (omega (arith, b, bit_at-zero d)) })

pub last-marked : (ts : List Formula) (cs : List Choice) (ws vs : List ℕ) (d n m : ℕ)
    → ((i e : ℕ) → bit_at (slice_index_or vs i 0) e ≡ 1 → (bit_at (slice_index_or ws i 0) e ≡ 1) ⊎ ((i ≡ n) × (e ≡ d)))
    → m ≡ n → n < length ts → parts true (formula ts n) ≡ Some (more (formula ts n) none) → Last ts cs ws
    → Is ts m (simple (decision_at cs d) (formula ts n) true) → Last ts cs vs
last-marked ts cs ws vs d n m grown e l single h k =
    let lasts : Lasts ts cs d n = record { there = l; same = sym k.1 ∙ ap (formula ts) e; single = single } in
    record { each = λ i x b. ⊎_elim (λ old. h.each i x old) (λ new. rw (new.0, new.1) lasts) (grown i x b) }

pub remembers-later : (ts us : List Formula) (cs : List Choice) (m : Memo) → Extends ts us → Remembers ts cs m → Remembers us cs m
remembers-later ts us cs m e h = record { entries = entries-later ts us cs m.entries.items e h.entries; lasting = last-later ts us cs m.lasting.items e h.lasting }

pub remembers-none : (ts : List Formula) (cs : List Choice) (m : Memo) → m.entries.items ≡ [] → m.lasting.items ≡ [] → Remembers ts cs m
remembers-none ts cs m e l = record { entries = entries-none ts cs m.entries.items e; lasting = last-none ts cs m.lasting.items l }

pub remembers-both : (ts : List Formula) (cs : List Choice) (m : Memo) (ws : List ℕ) → AreEntries ts cs m.entries.items → m.lasting.items ≡ ws → Last ts cs ws → Remembers ts cs m
remembers-both ts cs m ws h e k = record { entries = h; lasting = subst (Last ts cs) (sym e) k }

pub ruleset remembering = (entries-fresh, entries-nothing, entries-set)
