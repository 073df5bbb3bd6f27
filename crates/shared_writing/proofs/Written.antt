-- What is written is read.
use Rattle.std.proofs.Common.{append_assoc, ◌≡◌, ℕ, zero, suc, ◌+◌, ◌<◌, ◌≤◌, List, [], ◌∷◌, ◌++◌, length, refl, ap, subst, ◌∙◌, sym, arith, codes, All, Ok}
use Rattle.std.proofs.lemmas.List.{append-nil, length-append}
use Rattle.std.proofs.lemmas.List.Elements.{All-head, All-tail}
use Rattle.shared_certificates.specs.Nodes.{Node, Shared, nothing_shared}
use Rattle.shared_certificates.specs.Lines.{lines, words}
use Rattle.shared_certificates.specs.Grammar.{AddAll, Adds, adds_certificate, adds_tree, IsNode, cert_words, header_words, node_words, number_word, tree_words}
use Rattle.shared_certificates.specs.Reading.{added, level, rooted, text_read}
use Rattle.shared_certificate_laws.specs.Laws.{IsText}
use Rattle.shared_certificate_laws.proofs.LineLaws.{text_exact}
use Rattle.shared_writing.specs.Writing.{IsTable, MayAdd, cert_lines, line_text, text_of, tree_lines, with_nodes, with_roots}
use Rattle.shared_writing.proofs.Plain.{InFront, in-front, plain-cert, plain-header, plain-tree}

abbrev IsRoot : ℕ → ℕ → Type 0
IsRoot count root = (root < count) × (root < 4294967295)

-- a line in front of others
add-first : (t u v : Shared) (ws : List (List ℕ)) (rest : List ℕ) → InFront ws rest → Adds t ws u → AddAll u (lines rest) v → AddAll t (lines (line_text ws ++ rest)) v
add-first t u v ws rest f a h = subst (λ ls. AddAll t ls v) (sym f.is) (u, subst (λ x. Adds t x u) (sym f.spells) a, h)

trees-add : (number : ℕ) (t v : Shared) (ns : List Node) (rest : List ℕ) → number ≡ length t.nodes → MayAdd t ns → AddAll (with_nodes t ns) (lines rest) v → AddAll t (lines (tree_lines number ns ++ rest)) v
trees-add number t v [] rest e m h = h
trees-add number t v (n ∷ ns) rest e m h =
    let more : List ℕ = tree_lines (number + 1) ns in
    let small : number < 4294967295 = omega (arith, e, m.0) in
    let next : number + 1 ≡ length (added t n).nodes = omega (arith, e, length-append t.nodes (n ∷ [])) in
    let one : Adds t (tree_words number n) (added t n) = adds_tree n (ap (λ k. tree_words k n) e) m.0 m.1 m.2 refl in
    let first = in-front (codes "tree") (number_word number ∷ node_words n) (more ++ rest) (plain-tree (length t.nodes) number n small m.1) in
    subst (λ bs. AddAll t (lines bs) v) (sym (append_assoc (line_text (tree_words number n)) more rest))
    (add-first t (added t n) v (tree_words number n) (more ++ rest) first one (trees-add (number + 1) (added t n) v ns rest next m.3 h))

certs-add : (number : ℕ) (t : Shared) (roots : List ℕ) → number ≡ length t.roots → number + length roots ≤ 4294967295 → All (IsRoot (length t.nodes)) roots → AddAll t (lines (cert_lines number roots)) (with_roots t roots)
certs-add number t [] e few h = refl
certs-add number t (root ∷ roots) e few h =
    let more : List ℕ = cert_lines (number + 1) roots in
    let small : number < 4294967295 = omega (arith, few) in
    let head = All-head (IsRoot (length t.nodes)) root roots h in
    let next : number + 1 ≡ length (rooted t root).roots = omega (arith, e, length-append t.roots (root ∷ [])) in
    let one : Adds t (cert_words number root) (rooted t root) = adds_certificate root (ap (λ k. cert_words k root) e) (omega (arith, e, small)) head refl in
    let first = in-front (codes "cert") (number_word number ∷ number_word root ∷ []) more (plain-cert number root small head.1) in
    add-first t (rooted t root) (with_roots (rooted t root) roots) (cert_words number root) more first one
    (certs-add (number + 1) (rooted t root) roots next (omega (arith, few)) (All-tail (IsRoot (length t.nodes)) root roots h))

-- ---- what nodes make
nodes-in : (t : Shared) (ns : List Node) → (with_nodes t ns).nodes ≡ t.nodes ++ ns
nodes-in t [] = sym (append-nil t.nodes)
nodes-in t (n ∷ ns) = nodes-in (added t n) ns ∙ append_assoc t.nodes (n ∷ []) ns

roots-in : (t : Shared) (ns : List Node) → (with_nodes t ns).roots ≡ t.roots
roots-in t [] = refl
roots-in t (n ∷ ns) = roots-in (added t n) ns

pub written_read : (t : Shared) → IsTable t → text_read (lines (text_of t)) ≡ Ok t
written_read t h =
    let made : Shared = with_nodes nothing_shared t.nodes in
    let behind : List ℕ = tree_lines 0 t.nodes ++ cert_lines 0 t.roots in
    let first = in-front (codes "version") (codes "3" ∷ []) behind plain-header in
    let same : made.nodes ≡ t.nodes = nodes-in nothing_shared t.nodes in
    let none : made.roots ≡ [] = roots-in nothing_shared t.nodes in
    let there : All (IsRoot (length made.nodes)) t.roots = subst (λ ns. All (IsRoot (length ns)) t.roots) (sym same) h.roots in
    let certs = certs-add 0 made t.roots (omega (arith, ap length none)) (omega (arith, h.few)) there in
    let all : AddAll nothing_shared (lines behind) t = subst (AddAll nothing_shared (lines behind)) h.noted (trees-add 0 nothing_shared (with_roots made t.roots) t.nodes (cert_lines 0 t.roots) refl h.nodes certs) in
    let text : IsText (text_of t) t = record { head = first.line; others = lines behind; is = first.is; header = first.spells; adds = all } in
    (text_exact (text_of t) t).1 text
