-- Lines: what is read of one is what it spells, and what is spelled is read.
use Rattle.std.proofs.Common.{◌≡◌, ℕ, ℤ, zero, suc, ◌+◌, ◌<◌, ◌≤◌, Bool, true, false, not, ◌&&◌, cond, List, [], ◌∷◌, ◌++◌, length, map, take, drop, get_or, refl, ap, subst, ◌∙◌, sym, Result, Ok, Err, Option, Some, None, codes, nat_lt, ◌==◌, arith, All}
use Rattle.std.specs.Fmt.{decimal, signed_decimal}
use Rattle.std.specs.List.{prefix_len}
use Rattle.std.proofs.lemmas.List.{length-append, take_all, take-append-le, drop-append-le, drop_all, length-map, take-append-drop}
use Rattle.std.proofs.lemmas.List.Elements.{All-head, All-tail}
use Rattle.std.proofs.lemmas.Fmt.{decimal_nonempty}
use Rattle.std.proofs.lemmas.Slice.Eq.{bytes_eq-Decides}
use Rattle.st_linear.specs.Linear.{Linear, is_small, of_entries, rise_from}
use Rattle.st_certificate.specs.Tree.{Step, by_case, by_truth, by_split, by_cut}
use Rattle.shared_certificates.specs.declared.refusals.Refusal.{Refusal}
use Rattle.shared_certificates.specs.declared.refusals.Refusal.TheVariants.{Malformed, Limit}
use Rattle.shared_certificates.specs.Nodes.{Node, contradiction, farkas_sum, linear_sum, division, Shared}
use Rattle.shared_certificates.specs.Grammar.{Adds, adds_nothing, adds_tree, adds_certificate, IsNode, IsStep, cert_words, line_word, node_words, number_word, pick_word, step_words, term_word, tree_words}
use Rattle.shared_certificates.specs.Reading.{Read, ◌>>=◌, added, all_of, alone, cert_line, cut, cut_by, farkas_node, few_of, index, is, judged, level, line, line_read, linear_node, next, node, numbered, numbered_parts, pair, parts, pick, reference, rooted, signed, term, terms_len, tree_line}
use Rattle.shared_certificate_laws.proofs.Numerals.{as-ok, binds, done, eq-self, false-lt, index-complete, index-sound, lt-false, lt-true, never-ok, on-bound, signed-complete, signed-sound, true-lt}
use Rattle.shared_certificate_laws.proofs.Elements.{IsLine, IsPick, IsTerm, all-complete, all-sound, if-none, line-complete, line-sound, pick-complete, pick-sound, term-complete, term-sound}

-- ---- names
pub named : (w name : List ℕ) → is w name ≡ true → w ≡ name
named w name h = (bytes_eq-Decides w name).0 h

pub choose : {A : Type 0} (b : Bool) (x y r : Read A) (P : Type 0) → (b ≡ true → x ≡ r → P) → (b ≡ false → y ≡ r → P) → cond b x y ≡ r → P
choose true x y r P f g h = f refl h
choose false x y r P f g h = g refl h

-- ---- references
abbrev IsReference : ℕ → ℕ → Type 0
IsReference count n = (n < count) × (n < 4294967295)

abbrev limited : ℕ → Bool → Read ℕ
limited n b = cond b (Ok n) (Err Malformed)

if-less : (n count m : ℕ) → limited n (nat_lt n count) ≡ done m → (n < count) × (n ≡ m)
if-less n count m h = by (nat_lt n count) refl h where
  by : (b : Bool) → nat_lt n count ≡ b → limited n b ≡ done m → (n < count) × (n ≡ m)
  by true e k = (lt-true n count e, as-ok n m k)
  by false e k = absurd (never-ok Malformed m k)

pub reference-sound : (count : ℕ) (w : List ℕ) (n : ℕ) → reference count w ≡ Ok n → (w ≡ number_word n) × IsReference count n
unfolding reference
reference-sound count w n h =
    let b = on-bound (index w) (λ m. limited m (nat_lt m count)) n h in
    let l = if-less b.0 count n b.2 in
    let s = index-sound w b.0 b.1 in
    subst (λ m. (w ≡ number_word m) × IsReference count m) l.1 (s.0, (l.0, s.1))

pub reference-complete : (count n : ℕ) → IsReference count n → reference count (number_word n) ≡ Ok n
unfolding reference
reference-complete count n h = binds (index (number_word n)) (λ m. limited m (nat_lt m count)) n n (index-complete n h.1) (ap (limited n) (true-lt n count h.0))

-- ---- parts
abbrev AreParts : ℕ → List (List ℕ) → List ℕ → Type 0
AreParts count ws ns = (ws ≡ codes ":" ∷ map number_word ns) × All (IsReference count) ns

parts-sound : (count : ℕ) (ws : List (List ℕ)) (ns : List ℕ) → parts count ws ≡ Ok ns → AreParts count ws ns
parts-sound count [] ns h = absurd (never-ok Malformed ns h)
parts-sound count (c ∷ ws) ns h =
    choose (is c (codes ":")) (all_of (reference count) ws) (Err Malformed) (Ok ns) (AreParts count (c ∷ ws) ns)
    (λ e k. let a = all-sound (reference count) number_word (IsReference count) (reference-sound count) ws ns k in
    (ap (λ x. x ∷ ws) (named c (codes ":") e) ∙ ap (λ xs. codes ":" ∷ xs) a.0, a.1))
    (λ e k. absurd (never-ok Malformed ns k)) h

parts-complete : (count : ℕ) (ns : List ℕ) → All (IsReference count) ns → parts count (codes ":" ∷ map number_word ns) ≡ Ok ns
parts-complete count ns h = all-complete (reference count) number_word (IsReference count) (reference-complete count) ns h

-- ---- steps that have a number
abbrev IsNumbered : ℕ → (ℕ → Step) → List ℕ → List (List ℕ) → Node → Type 0
IsNumbered count step name ws n = (name ∷ ws ≡ node_words n) × IsNode count n

numbered-sound : (count : ℕ) (step : ℕ → Step) (name : List ℕ) (ws : List (List ℕ)) (n : Node) → ((k : ℕ) → step_words (step k) ≡ name ∷ number_word k ∷ []) → ((k : ℕ) → k < 4294967295 → IsStep (step k))
    → numbered count step ws ≡ Ok n → IsNumbered count step name ws n
numbered-sound count step name [] n names fits h = absurd (never-ok Malformed n h)
numbered-sound count step name (w ∷ ws) n names fits h =
    let a = on-bound (numbered_parts count (w ∷ ws)) (λ (p : ℕ × List ℕ). Ok (division (step p.0) p.1)) n h in
    let b = on-bound (index w) (λ k. parts count ws >>= λ ns. Ok (pair k ns)) a.0 a.1 in
    let c = on-bound (parts count ws) (λ ns. Ok (pair b.0 ns)) a.0 b.2 in
    let s = index-sound w b.0 b.1 in
    let p = parts-sound count ws c.0 c.1 in
    let same : division (step b.0) c.0 ≡ n = ap (λ (q : ℕ × List ℕ). division (step q.0) q.1) (as-ok (pair b.0 c.0) a.0 c.2) ∙ as-ok (division (step a.0.0) a.0.1) n a.2 in
    subst (IsNumbered count step name (w ∷ ws)) same
    (ap (λ x. name ∷ x ∷ ws) s.0 ∙ ap (λ xs. name ∷ number_word b.0 ∷ xs) p.0 ∙ sym (ap (λ xs. xs ++ codes ":" ∷ map number_word c.0) (names b.0)), (fits b.0 s.1, p.1))

numbered-complete : (count : ℕ) (step : ℕ → Step) (k : ℕ) (ns : List ℕ) → k < 4294967295 → All (IsReference count) ns → numbered count step (number_word k ∷ codes ":" ∷ map number_word ns) ≡ Ok (division (step k) ns)
numbered-complete count step k ns l h =
    let ws : List (List ℕ) = codes ":" ∷ map number_word ns in
    binds (numbered_parts count (number_word k ∷ ws)) (λ (p : ℕ × List ℕ). Ok (division (step p.0) p.1)) (k, ns) (division (step k) ns)
    (binds (index (number_word k)) (λ j. parts count ws >>= λ ms. Ok (pair j ms)) k (k, ns) (index-complete k l)
    (binds (parts count ws) (λ ms. Ok (pair k ms)) ns (k, ns) (parts-complete count ns h) refl)) refl

-- ---- cuts
no-name : (w : List ℕ) → 1 < length w → is w (codes ":") ≡ false
no-name w l = by (is w (codes ":")) refl where
  by : (b : Bool) → is w (codes ":") ≡ b → b ≡ false
  by true e = absurd (omega (arith, l, ap length (named w (codes ":") e)))
  by false e = refl

long-term : (e : ℕ × ℤ) → IsTerm e → 1 < length (term_word e)
long-term e h = omega (arith, length-append (signed_decimal e.1) (58 ∷ decimal (e.0 + 1)), decimal_nonempty (e.0 + 1) (omega (arith, h.0)))

terms-end : (es : List (ℕ × ℤ)) (ws : List (List ℕ)) → All IsTerm es → terms_len (map term_word es ++ codes ":" ∷ ws) ≡ length es
terms-end [] ws h = refl
terms-end (e ∷ es) ws h =
    ap (λ b. cond (not b) (1 + terms_len (map term_word es ++ codes ":" ∷ ws)) 0) (no-name (term_word e) (long-term e (All-head IsTerm e es h)))
    ∙ omega (arith, terms-end es ws (All-tail IsTerm e es h))

record CutBy (o : Option Linear) (ns : List ℕ) (n : Node) : Type 0 where
  form : Linear
  is : o ≡ Some form
  same : division (by_cut form) ns ≡ n

cut-form : (o : Option Linear) (ns : List ℕ) (n : Node) → cut_by o ns ≡ Ok n → CutBy o ns n
cut-form None ns n h = absurd (never-ok Malformed n h)
cut-form (Some f) ns n h = record { form = f; is = refl; same = as-ok (division (by_cut f) ns) n h }

form-is : (c : ℤ) (es : List (ℕ × ℤ)) (f : Linear) → of_entries c es ≡ Some f → record { constant = c; entries = es } ≡ f
form-is c es f h = (if-none (is_small c && rise_from 0 es) (record { constant = c; entries = es }) f h).1

abbrev IsCut : ℕ → List (List ℕ) → Node → Type 0
IsCut count ws n = (codes "cut" ∷ ws ≡ node_words n) × IsNode count n

cut-sound : (count : ℕ) (ws : List (List ℕ)) (n : Node) → cut count ws ≡ Ok n → IsCut count ws n
cut-sound count [] n h = absurd (never-ok Malformed n h)
cut-sound count (w ∷ ws) n h =
    let t : ℕ = terms_len ws in
    let a = on-bound (signed 1152921504606846976 w) (λ c. all_of term (take t ws) >>= λ es. parts count (drop t ws) >>= λ ns. cut_by (of_entries c es) ns) n h in
    let b = on-bound (all_of term (take t ws)) (λ es. parts count (drop t ws) >>= λ ns. cut_by (of_entries a.0 es) ns) n a.2 in
    let d = on-bound (parts count (drop t ws)) (λ ns. cut_by (of_entries a.0 b.0) ns) n b.2 in
    let z = signed-sound 1152921504606846976 w a.0 (omega arith) a.1 in
    let es = all-sound term term_word IsTerm term-sound (take t ws) b.0 b.1 in
    let ns = parts-sound count (drop t ws) d.0 d.1 in
    let k = cut-form (of_entries a.0 b.0) d.0 n d.2 in
    let g : Linear = record { constant = a.0; entries = b.0 } in
    let same : g ≡ k.form = form-is a.0 b.0 k.form k.is in
    let whole : ws ≡ map term_word b.0 ++ codes ":" ∷ map number_word d.0 = sym (take-append-drop t ws) ∙ ap (λ x. x ++ drop t ws) es.0 ∙ ap (λ y. map term_word b.0 ++ y) ns.0 in
    let made : IsCut count (w ∷ ws) (division (by_cut g) d.0) =
    (ap (λ x. codes "cut" ∷ x ∷ ws) z.0 ∙ ap (λ x. codes "cut" ∷ signed_decimal a.0 ∷ x) whole, ((k.is ∙ sym (ap Some same), z.1, es.1), ns.1)) in
    subst (IsCut count (w ∷ ws)) (ap (λ f. division (by_cut f) d.0) same ∙ k.same) made

cut-complete : (count : ℕ) (f : Linear) (ns : List ℕ) → IsStep (by_cut f) → All (IsReference count) ns → cut count (signed_decimal f.constant ∷ (map term_word f.entries ++ codes ":" ∷ map number_word ns)) ≡ Ok (division (by_cut f) ns)
cut-complete count f ns h r =
    let back : List (List ℕ) = codes ":" ∷ map number_word ns in
    let front : List (List ℕ) = map term_word f.entries in
    let ws : List (List ℕ) = front ++ back in
    let len : length front ≡ length f.entries = length-map f.entries term_word in
    let t : terms_len ws ≡ length front = terms-end f.entries (map number_word ns) h.2 ∙ sym len in
    let one : take (terms_len ws) ws ≡ front = ap (λ k. take k ws) t ∙ take-append-le (length front) front back (omega arith) ∙ take_all (length front) front (omega arith) in
    let two : drop (terms_len ws) ws ≡ back = ap (λ k. drop k ws) t ∙ drop-append-le (length front) front back (omega arith) ∙ ap (λ x. x ++ back) (drop_all (length front) front (omega arith)) in
    let node : Node = division (by_cut f) ns in
    binds (signed 1152921504606846976 (signed_decimal f.constant)) (λ c. all_of term (take (terms_len ws) ws) >>= λ es. parts count (drop (terms_len ws) ws) >>= λ ms. cut_by (of_entries c es) ms) f.constant node
    (signed-complete 1152921504606846976 f.constant h.1 (omega arith))
    (binds (all_of term (take (terms_len ws) ws)) (λ es. parts count (drop (terms_len ws) ws) >>= λ ms. cut_by (of_entries f.constant es) ms) f.entries node
    (ap (all_of term) one ∙ all-complete term term_word IsTerm term-complete f.entries h.2)
    (binds (parts count (drop (terms_len ws) ws)) (λ ms. cut_by (of_entries f.constant f.entries) ms) ns node
    (ap (parts count) two ∙ parts-complete count ns r)
    (ap (λ o. cut_by o ns) h.0)))

-- ---- leaves
abbrev AreFew : {A : Type 0} → (A → List ℕ) → (A → Type 0) → List (List ℕ) → List A → Type 0
AreFew g Q ws xs = (ws ≡ map g xs) × (length xs ≤ 4096) × All Q xs

few-sound : {A : Type 0} (f : List ℕ → Read A) (g : A → List ℕ) (Q : A → Type 0) → ((w : List ℕ) (x : A) → f w ≡ Ok x → (w ≡ g x) × Q x) → (ws : List (List ℕ)) (xs : List A) → few_of f ws ≡ Ok xs → AreFew g Q ws xs
few-sound f g Q each ws xs h =
    choose (nat_lt 4096 (length ws)) (Err Limit) (all_of f ws) (Ok xs) (AreFew g Q ws xs)
    (λ e k. absurd (never-ok Limit xs k))
    (λ e k. let a = all-sound f g Q each ws xs k in (a.0, omega (arith, lt-false 4096 (length ws) e, ap length a.0, length-map xs g), a.1)) h

few-complete : {A : Type 0} (f : List ℕ → Read A) (g : A → List ℕ) (Q : A → Type 0) → ((x : A) → Q x → f (g x) ≡ Ok x) → (xs : List A) → length xs ≤ 4096 → All Q xs → few_of f (map g xs) ≡ Ok xs
few-complete f g Q each xs l h =
    ap (λ b. cond b (Err Limit) (all_of f (map g xs))) (false-lt 4096 (length (map g xs)) (omega (arith, l, length-map xs g))) ∙ all-complete f g Q each xs h

farkas-sound : (count : ℕ) (ws : List (List ℕ)) (n : Node) → farkas_node ws ≡ Ok n → (codes "farkas" ∷ ws ≡ node_words n) × IsNode count n
farkas-sound count ws n h =
    let b = on-bound (few_of pick ws) (λ ps. Ok (farkas_sum ps)) n h in
    let s = few-sound pick pick_word IsPick pick-sound ws b.0 b.1 in
    subst (λ m. (codes "farkas" ∷ ws ≡ node_words m) × IsNode count m) (as-ok (farkas_sum b.0) n b.2) (ap (λ x. codes "farkas" ∷ x) s.0, (s.1, s.2))

linear-sound : (count : ℕ) (ws : List (List ℕ)) (n : Node) → linear_node ws ≡ Ok n → (codes "linear" ∷ ws ≡ node_words n) × IsNode count n
linear-sound count ws n h =
    let b = on-bound (few_of line ws) (λ ps. Ok (linear_sum ps)) n h in
    let s = few-sound line line_word IsLine line-sound ws b.0 b.1 in
    subst (λ m. (codes "linear" ∷ ws ≡ node_words m) × IsNode count m) (as-ok (linear_sum b.0) n b.2) (ap (λ x. codes "linear" ∷ x) s.0, (s.1, s.2))

alone-sound : (count : ℕ) (ws : List (List ℕ)) (n : Node) → alone ws ≡ Ok n → (codes "absurd" ∷ ws ≡ node_words n) × IsNode count n
alone-sound count [] n h = subst (λ m. (codes "absurd" ∷ [] ≡ node_words m) × IsNode count m) (as-ok contradiction n h) (refl, tt)
alone-sound count (w ∷ ws) n h = absurd (never-ok Malformed n h)

-- ---- nodes
abbrev Spells : ℕ → List (List ℕ) → Node → Type 0
Spells count ws n = (ws ≡ node_words n) × IsNode count n

renamed : (count : ℕ) (w name : List ℕ) (ws : List (List ℕ)) (n : Node) → is w name ≡ true → Spells count (name ∷ ws) n → Spells count (w ∷ ws) n
renamed count w name ws n e s = (ap (λ x. x ∷ ws) (named w name e) ∙ s.0, s.1)

pub node-sound : (count : ℕ) (ws : List (List ℕ)) (n : Node) → node count ws ≡ Ok n → Spells count ws n
unfolding node
node-sound count [] n h = absurd (never-ok Malformed n h)
node-sound count (w ∷ ws) n h =
    choose (is w (codes "absurd")) (alone ws) _ (Ok n) (Spells count (w ∷ ws) n) (λ e k. renamed count w (codes "absurd") ws n e (alone-sound count ws n k))
    (λ e1 h1. choose (is w (codes "farkas")) (farkas_node ws) _ (Ok n) (Spells count (w ∷ ws) n) (λ e k. renamed count w (codes "farkas") ws n e (farkas-sound count ws n k))
    (λ e2 h2. choose (is w (codes "linear")) (linear_node ws) _ (Ok n) (Spells count (w ∷ ws) n) (λ e k. renamed count w (codes "linear") ws n e (linear-sound count ws n k))
    (λ e3 h3. choose (is w (codes "case")) (numbered count by_case ws) _ (Ok n) (Spells count (w ∷ ws) n) (λ e k. renamed count w (codes "case") ws n e (numbered-sound count by_case (codes "case") ws n (λ j. refl) (λ j l. l) k))
    (λ e4 h4. choose (is w (codes "bool")) (numbered count by_truth ws) _ (Ok n) (Spells count (w ∷ ws) n) (λ e k. renamed count w (codes "bool") ws n e (numbered-sound count by_truth (codes "bool") ws n (λ j. refl) (λ j l. l) k))
    (λ e5 h5. choose (is w (codes "split")) (numbered count by_split ws) _ (Ok n) (Spells count (w ∷ ws) n) (λ e k. renamed count w (codes "split") ws n e (numbered-sound count by_split (codes "split") ws n (λ j. refl) (λ j l. l) k))
    (λ e6 h6. choose (is w (codes "cut")) (cut count ws) (Err Malformed) (Ok n) (Spells count (w ∷ ws) n) (λ e k. renamed count w (codes "cut") ws n e (cut-sound count ws n k))
    (λ e7 h7. absurd (never-ok Malformed n h7)) h6) h5) h4) h3) h2) h1) h

pub node-complete : (count : ℕ) (n : Node) → IsNode count n → node count (node_words n) ≡ Ok n
unfolding node
node-complete count contradiction h = refl
node-complete count (farkas_sum ps) h = binds (few_of pick (map pick_word ps)) (λ qs. Ok (farkas_sum qs)) ps (farkas_sum ps) (few-complete pick pick_word IsPick pick-complete ps h.0 h.1) refl
node-complete count (linear_sum ps) h = binds (few_of line (map line_word ps)) (λ qs. Ok (linear_sum qs)) ps (linear_sum ps) (few-complete line line_word IsLine line-complete ps h.0 h.1) refl
node-complete count (division (by_case c) ns) h = numbered-complete count by_case c ns h.0 h.1
node-complete count (division (by_truth v) ns) h = numbered-complete count by_truth v ns h.0 h.1
node-complete count (division (by_split k) ns) h = numbered-complete count by_split k ns h.0 h.1
node-complete count (division (by_cut f) ns) h = cut-complete count f ns h.0 h.1
