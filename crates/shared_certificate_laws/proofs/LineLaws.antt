-- Lines behind one another, and whole texts.
use Rattle.std.proofs.Common.{◌≡◌, ◌⊎◌, inl, inr, ℕ, zero, suc, ◌+◌, ◌<◌, ◌≤◌, Bool, true, false, ◌&&◌, cond, List, [], ◌∷◌, ◌++◌, length, refl, ap, subst, ◌∙◌, sym, Result, Ok, Err, codes, nat_lt, ◌==◌, arith}
use Rattle.std.proofs.lemmas.Bool.{and_parts}
use Rattle.shared_certificates.specs.declared.refusals.Refusal.{Refusal}
use Rattle.shared_certificates.specs.declared.refusals.Refusal.TheVariants.{Malformed, Limit}
use Rattle.shared_certificates.specs.Nodes.{Node, Shared, nothing_shared}
use Rattle.shared_certificates.specs.Lines.{lines, words}
use Rattle.shared_certificates.specs.Grammar.{AddAll, Adds, adds_certificate, adds_nothing, adds_tree, IsNode, cert_words, header_words, node_words, number_word, tree_words}
use Rattle.shared_certificates.specs.Reading.{Read, Refused, ◌>>=◌, added, cert_line, header_read, index, is, judged, level, line_read, lines_read, next, node, opened, placed, reference, rooted, text_read, tree_line}
use Rattle.shared_certificate_laws.specs.Laws.{Exactly, HasNoHeader, IsFirstWrong, IsText, bytes_in}
use Rattle.shared_certificate_laws.proofs.Numerals.{as-ok, binds, done, eq-self, eq-true, false-lt, index-complete, index-sound, lt-false, never-ok, on-bound}
use Rattle.shared_certificate_laws.proofs.NodeLaws.{choose, named, node-complete, node-sound, reference-complete, reference-sound}

-- ---- the next number
abbrev if_next : Bool → Read (Unit {0})
if_next b = cond b (Ok tt) (Err Malformed)

next-is : (n count : ℕ) (u : Unit {0}) → if_next (n == count) ≡ done u → n ≡ count
next-is n count u h = by (n == count) refl h where
  by : (b : Bool) → (n == count) ≡ b → if_next b ≡ done u → n ≡ count
  by true e k = eq-true n count e
  by false e k = absurd (never-ok Malformed u k)

next-sound : (count : ℕ) (w : List ℕ) (u : Unit {0}) → next count w ≡ Ok u → (w ≡ number_word count) × (count < 4294967295)
next-sound count w u h =
    let b = on-bound (index w) (λ n. if_next (n == count)) u h in
    subst (λ n. (w ≡ number_word n) × (n < 4294967295)) (next-is b.0 count u b.2) (index-sound w b.0 b.1)

next-complete : (count : ℕ) → count < 4294967295 → next count (number_word count) ≡ Ok tt
next-complete count h = binds (index (number_word count)) (λ n. if_next (n == count)) count tt (index-complete count h) (ap if_next (eq-self count))

-- ---- trees
abbrev if_low : Shared → Node → Bool → Read Shared
if_low t n b = cond b (Err Limit) (Ok (added t n))

judged-sound : (t : Shared) (n : Node) (u : Shared) → judged t n ≡ Ok u → (level t.levels n ≤ 400) × (added t n ≡ u)
judged-sound t n u h = by (nat_lt 400 (level t.levels n)) refl h where
  by : (b : Bool) → nat_lt 400 (level t.levels n) ≡ b → if_low t n b ≡ done u → (level t.levels n ≤ 400) × (added t n ≡ u)
  by true e k = absurd (never-ok Limit u k)
  by false e k = (lt-false 400 (level t.levels n) e, as-ok (added t n) u k)

tree-sound : (t : Shared) (ws : List (List ℕ)) (u : Shared) → tree_line t ws ≡ Ok u → Adds t (codes "tree" ∷ ws) u
tree-sound t [] u h = absurd (never-ok Malformed u h)
tree-sound t (w ∷ ws) u h =
    let count : ℕ = length t.nodes in
    let a = on-bound (next count w) (λ x. node count ws >>= λ n. judged t n) u h in
    let b = on-bound (node count ws) (λ n. judged t n) u a.2 in
    let number = next-sound count w a.0 a.1 in
    let n = node-sound count ws b.0 b.1 in
    let j = judged-sound t b.0 u b.2 in
    adds_tree b.0 (ap (λ x. codes "tree" ∷ x ∷ ws) number.0 ∙ ap (λ x. codes "tree" ∷ number_word count ∷ x) n.0) number.1 n.1 j.0 j.1

tree-complete : (t : Shared) (n : Node) → length t.nodes < 4294967295 → IsNode (length t.nodes) n → level t.levels n ≤ 400 → tree_line t (number_word (length t.nodes) ∷ node_words n) ≡ Ok (added t n)
tree-complete t n h is low =
    let count : ℕ = length t.nodes in
    binds (next count (number_word count)) (λ x. node count (node_words n) >>= λ m. judged t m) tt (added t n) (next-complete count h)
    (binds (node count (node_words n)) (λ m. judged t m) n (added t n) (node-complete count n is) (ap (if_low t n) (false-lt 400 (level t.levels n) low)))

-- ---- certificates
cert-sound : (t : Shared) (ws : List (List ℕ)) (u : Shared) → cert_line t ws ≡ Ok u → Adds t (codes "cert" ∷ ws) u
cert-sound t [] u h = absurd (never-ok Malformed u h)
cert-sound t (w ∷ []) u h = absurd (never-ok Malformed u h)
cert-sound t (w ∷ v ∷ x ∷ ws) u h = absurd (never-ok Malformed u h)
cert-sound t (w ∷ v ∷ []) u h =
    let a = on-bound (next (length t.roots) w) (λ x. reference (length t.nodes) v >>= λ root. Ok (rooted t root)) u h in
    let b = on-bound (reference (length t.nodes) v) (λ root. Ok (rooted t root)) u a.2 in
    let number = next-sound (length t.roots) w a.0 a.1 in
    let r = reference-sound (length t.nodes) v b.0 b.1 in
    adds_certificate b.0 (ap (λ x. codes "cert" ∷ x ∷ v ∷ []) number.0 ∙ ap (λ x. codes "cert" ∷ number_word (length t.roots) ∷ x ∷ []) r.0) number.1 r.1 (as-ok (rooted t b.0) u b.2)

cert-complete : (t : Shared) (root : ℕ) → length t.roots < 4294967295 → (root < length t.nodes) × (root < 4294967295) → cert_line t (number_word (length t.roots) ∷ number_word root ∷ []) ≡ Ok (rooted t root)
cert-complete t root h r =
    binds (next (length t.roots) (number_word (length t.roots))) (λ x. reference (length t.nodes) (number_word root) >>= λ k. Ok (rooted t k)) tt (rooted t root) (next-complete (length t.roots) h)
    (binds (reference (length t.nodes) (number_word root)) (λ k. Ok (rooted t k)) root (rooted t root) (reference-complete (length t.nodes) root r) refl)

-- ---- a line
renamed-line : (t : Shared) (w name : List ℕ) (ws : List (List ℕ)) (u : Shared) → is w name ≡ true → Adds t (name ∷ ws) u → Adds t (w ∷ ws) u
renamed-line t w name ws u e a = subst (λ x. Adds t (x ∷ ws) u) (sym (named w name e)) a

read-adds : (t u : Shared) (ws : List (List ℕ)) → line_read t ws ≡ Ok u → Adds t ws u
unfolding line_read
read-adds t u [] h = adds_nothing refl (as-ok t u h)
read-adds t u (w ∷ ws) h =
    choose (is w (codes "tree")) (tree_line t ws) _ (Ok u) (Adds t (w ∷ ws) u) (λ e k. renamed-line t w (codes "tree") ws u e (tree-sound t ws u k))
    (λ d g. choose (is w (codes "cert")) (cert_line t ws) (Err Malformed) (Ok u) (Adds t (w ∷ ws) u) (λ e k. renamed-line t w (codes "cert") ws u e (cert-sound t ws u k)) (λ e k. absurd (never-ok Malformed u k)) g) h

adds-read : (t u : Shared) (ws : List (List ℕ)) → Adds t ws u → line_read t ws ≡ Ok u
unfolding line_read
adds-read t u ws (adds_nothing e f) = ap (line_read t) e ∙ ap Ok f
adds-read t u ws (adds_tree n e h is low f) = ap (line_read t) e ∙ tree-complete t n h is low ∙ ap Ok f
adds-read t u ws (adds_certificate root e h r f) = ap (line_read t) e ∙ cert-complete t root h r ∙ ap Ok f

pub line_exact : (t u : Shared) (ws : List (List ℕ)) → Exactly (line_read t ws ≡ Ok u) (Adds t ws u)
line_exact t u ws = (read-adds t u ws, adds-read t u ws)

-- ---- all lines
abbrev value_in : Shared → Result Shared Refused → Shared
value_in t (Ok u) = u
value_in t (Err r) = t

abbrev place_in : Result Shared Refused → ℕ
place_in (Ok t) = 0
place_in (Err r) = r.1

abbrev went : Shared → Result Shared Refused
went t = Ok t

abbrev refused : Refusal → ℕ → Result Shared Refused
refused e place = Err (e, place)

never-went : (e : Refusal) (place : ℕ) (t : Shared) → refused e place ≡ went t → ⊥
never-went e place t h = absurd (cc)

all-added : (place : ℕ) (t u : Shared) (ls : List (List ℕ)) → lines_read place t ls ≡ went u → AddAll t ls u
all-added place t u [] h = ap (value_in t) h
all-added place t u (l ∷ ls) h = by (line_read t (words l)) refl h (λ v k. all-added (place + length l + 1) v u ls k) where
  by : (r : Read Shared) → line_read t (words l) ≡ r → placed place r (λ v. lines_read (place + length l + 1) v ls) ≡ went u
      → ((v : Shared) → lines_read (place + length l + 1) v ls ≡ went u → AddAll v ls u) → AddAll t (l ∷ ls) u
  by (Ok v) e k next = (v, read-adds t v (words l) e, next v k)
  by (Err x) e k next = absurd (never-went x place u k)

all-read : (place : ℕ) (t u : Shared) (ls : List (List ℕ)) → AddAll t ls u → lines_read place t ls ≡ Ok u
all-read place t u [] h = ap Ok h
all-read place t u (l ∷ ls) h =
    ap (λ r. placed place r (λ v. lines_read (place + length l + 1) v ls)) (adds-read t h.0 (words l) h.1) ∙ all-read (place + length l + 1) h.0 u ls h.2

-- ---- the header
header-sound : (ws : List (List ℕ)) (u : Unit {0}) → header_read ws ≡ Ok u → ws ≡ header_words
header-sound [] u h = absurd (never-ok Malformed u h)
header-sound (v ∷ []) u h = absurd (never-ok Malformed u h)
header-sound (v ∷ n ∷ x ∷ ws) u h = absurd (never-ok Malformed u h)
header-sound (v ∷ n ∷ []) u h = by (is v (codes "version") && is n (codes "3")) refl h where
  by : (b : Bool) → (is v (codes "version") && is n (codes "3")) ≡ b → if_next b ≡ done u → v ∷ n ∷ [] ≡ header_words
  by true e k =
      let p = and_parts (is v (codes "version")) (is n (codes "3")) e in
      ap (λ x. x ∷ n ∷ []) (named v (codes "version") p.0) ∙ ap (λ x. codes "version" ∷ x ∷ []) (named n (codes "3") p.1)
  by false e k = absurd (never-ok Malformed u k)

header-complete : (ws : List (List ℕ)) → ws ≡ header_words → header_read ws ≡ Ok tt
header-complete ws h = ap header_read h

-- ---- whole texts
record Heads (ls : List (List ℕ)) (t : Shared) : Type 0 where
  head : List ℕ
  others : List (List ℕ)
  is : ls ≡ head ∷ others
  header : words head ≡ header_words
  adds : AddAll nothing_shared others t

text-sound : (ls : List (List ℕ)) (t : Shared) → text_read ls ≡ Ok t → Heads ls t
text-sound [] t h = absurd (never-went Malformed 0 t h)
text-sound (l ∷ ls) t h = by (header_read (words l)) refl h where
  by : (r : Read (Unit {0})) → header_read (words l) ≡ r → opened r (lines_read (length l + 1) nothing_shared ls) ≡ went t → Heads (l ∷ ls) t
  by (Ok u) e k = record { head = l; others = ls; is = refl; header = header-sound (words l) u e; adds = all-added (length l + 1) nothing_shared t ls k }
  by (Err x) e k = absurd (never-went x 0 t k)

text-complete : (ls : List (List ℕ)) (t : Shared) → Heads ls t → text_read ls ≡ Ok t
text-complete ls t h =
    ap text_read h.is ∙ ap (λ r. opened r (lines_read (length h.head + 1) nothing_shared h.others)) (header-complete (words h.head) h.header) ∙ all-read (length h.head + 1) nothing_shared t h.others h.adds

pub text_exact : (text : List ℕ) (t : Shared) → Exactly (text_read (lines text) ≡ Ok t) (IsText text t)
text_exact text t = (
  λ h. let x = text-sound (lines text) t h in record { head = x.head; others = x.others; is = x.is; header = x.header; adds = x.adds },
  λ x. text-complete (lines text) t (record { head = x.head; others = x.others; is = x.is; header = x.header; adds = x.adds }),
)

pub read_once : (text : List ℕ) (t u : Shared) → IsText text t → IsText text u → t ≡ u
read_once text t u h k = ap (value_in t) (sym ((text_exact text t).1 h) ∙ (text_exact text u).1 k)

-- ---- the first line that is wrong
-- lines that add one after the other, and one behind them that adds nothing of the grammar
pub record Breaks (place : ℕ) (t : Shared) (ls : List (List ℕ)) (at : ℕ) : Type 0 where
  front : List (List ℕ)
  wrong : List ℕ
  rest : List (List ℕ)
  is : ls ≡ front ++ wrong ∷ rest
  before : Shared
  adds : AddAll t front before
  none : (u : Shared) → Adds before (words wrong) u → ⊥
  there : at ≡ place + bytes_in front

refused-at : (e x : Refusal) (p q : ℕ) → refused e p ≡ refused x q → p ≡ q
refused-at e x p q h = ap place_in h

breaks-read : (place : ℕ) (t : Shared) (ls : List (List ℕ)) (e : Refusal) (at : ℕ) → lines_read place t ls ≡ refused e at → Breaks place t ls at
breaks-read place t [] e at h = absurd (never-went e at t (sym h))
breaks-read place t (l ∷ ls) e at h = by (line_read t (words l)) refl h (λ v k. breaks-read (place + length l + 1) v ls e at k) where
  by : (r : Read Shared) → line_read t (words l) ≡ r → placed place r (λ v. lines_read (place + length l + 1) v ls) ≡ refused e at
      → ((v : Shared) → lines_read (place + length l + 1) v ls ≡ refused e at → Breaks (place + length l + 1) v ls at) → Breaks place t (l ∷ ls) at
  by (Ok v) r k next =
      let b = next v k in
      record {
        front = l ∷ b.front;
        wrong = b.wrong;
        rest = b.rest;
        is = ap (λ x. l ∷ x) b.is;
        before = b.before;
        adds = (v, read-adds t v (words l) r, b.adds);
        none = b.none;
        there = omega (arith, b.there);
      }
  by (Err x) r k next = record {
    front = [];
    wrong = l;
    rest = ls;
    is = refl;
    before = t;
    adds = refl;
    none = λ u a. never-ok x u (sym r ∙ adds-read t u (words l) a);
    there = omega (arith, refused-at x e place at k);
  }

abbrev IsRefusedAt : Result Shared Refused → ℕ → Type 0
IsRefusedAt r at = (e : Refusal) × (r ≡ refused e at)

refused-line : (place at : ℕ) (t : Shared) (l : List ℕ) (ls : List (List ℕ)) → ((u : Shared) → Adds t (words l) u → ⊥) → at ≡ place + 0 → IsRefusedAt (lines_read place t (l ∷ ls)) at
refused-line place at t l ls none there = by (line_read t (words l)) refl where
  by : (r : Read Shared) → line_read t (words l) ≡ r → IsRefusedAt (placed place r (λ v. lines_read (place + length l + 1) v ls)) at
  by (Ok v) e = absurd (none v (read-adds t v (words l) e))
  by (Err x) e = (x, let p : place ≡ at = omega (arith, there) in ap (refused x) p)

read-breaks : (place at : ℕ) (t before : Shared) (front rest : List (List ℕ)) (wrong : List ℕ) → AddAll t front before → ((u : Shared) → Adds before (words wrong) u → ⊥) → at ≡ place + bytes_in front
    → IsRefusedAt (lines_read place t (front ++ wrong ∷ rest)) at
read-breaks place at t before [] rest wrong adds none there =
    let same : (u : Shared) → Adds t (words wrong) u → ⊥ = λ u a. none u (subst (λ x. Adds x (words wrong) u) adds a) in
    refused-line place at t wrong rest same there
read-breaks place at t before (l ∷ front) rest wrong adds none there =
    let q = read-breaks (place + length l + 1) at adds.0 before front rest wrong adds.2 none (omega (arith, there)) in
    let e = ap (λ r. placed place r (λ v. lines_read (place + length l + 1) v (front ++ wrong ∷ rest))) (adds-read t adds.0 (words l) adds.1) in
    (q.0, e ∙ q.1)

no-header : (l : List ℕ) (e : Refusal) → header_read (words l) ≡ Err e → words l ≡ header_words → ⊥
no-header l e h k = never-ok e tt (sym h ∙ header-complete (words l) k)

abbrev Wrong : List (List ℕ) → ℕ → Type 0
Wrong ls place = (HasNoHeader ls × (place ≡ 0)) ⊎ ((head : List ℕ) × (others : List (List ℕ)) × (ls ≡ head ∷ others) × (words head ≡ header_words) × Breaks (length head + 1) nothing_shared others place)

wrong-read : (ls : List (List ℕ)) (e : Refusal) (place : ℕ) → text_read ls ≡ refused e place → Wrong ls place
wrong-read [] e place h = inl (tt, sym (refused-at Malformed e 0 place h))
wrong-read (l ∷ ls) e place h = by (header_read (words l)) refl h where
  by : (r : Read (Unit {0})) → header_read (words l) ≡ r → opened r (lines_read (length l + 1) nothing_shared ls) ≡ refused e place → Wrong (l ∷ ls) place
  by (Ok u) k g = inr (l, ls, refl, header-sound (words l) u k, breaks-read (length l + 1) nothing_shared ls e place g)
  by (Err x) k g = inl (no-header l x k, sym (refused-at x e 0 place g))

headless-read : (ls : List (List ℕ)) (place : ℕ) → HasNoHeader ls → place ≡ 0 → IsRefusedAt (text_read ls) place
headless-read [] place h e = (Malformed, ap (refused Malformed) (sym e))
headless-read (l ∷ ls) place h e = by (header_read (words l)) refl where
  by : (r : Read (Unit {0})) → header_read (words l) ≡ r → IsRefusedAt (opened r (lines_read (length l + 1) nothing_shared ls)) place
  by (Ok u) k = absurd (h (header-sound (words l) u k))
  by (Err x) k = (x, ap (refused x) (sym e))

broken-read : (text : List ℕ) (place : ℕ) → IsFirstWrong text place → IsRefusedAt (text_read (lines text)) place
broken-read text place w =
    let q = read-breaks (length w.head + 1) place nothing_shared w.before w.front w.rest w.wrong w.adds w.none w.there in
    (q.0, ap text_read w.is ∙ ap (λ r. opened r (lines_read (length w.head + 1) nothing_shared (w.front ++ w.wrong ∷ w.rest))) (header-complete (words w.head) w.header) ∙ q.1)

pub refusal_exact : (text : List ℕ) (place : ℕ) → Exactly (IsRefusedAt (text_read (lines text)) place) ((HasNoHeader (lines text) × (place ≡ 0)) ⊎ IsFirstWrong text place)
refusal_exact text place = (λ h. to (wrong-read (lines text) h.0 place h.1), from) where
  to : Wrong (lines text) place → (HasNoHeader (lines text) × (place ≡ 0)) ⊎ IsFirstWrong text place
  to (inl p) = inl p
  to (inr q) = inr (record {
    head = q.0;
    front = q.4.front;
    wrong = q.4.wrong;
    rest = q.4.rest;
    is = q.2 ∙ ap (λ x. q.0 ∷ x) q.4.is;
    header = q.3;
    before = q.4.before;
    adds = q.4.adds;
    none = q.4.none;
    there = q.4.there;
  })

  from : (HasNoHeader (lines text) × (place ≡ 0)) ⊎ IsFirstWrong text place → IsRefusedAt (text_read (lines text)) place
  from (inl p) = headless-read (lines text) place p.0 p.1
  from (inr w) = broken-read text place w
