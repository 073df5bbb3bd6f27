-- The nodes of a table that some text spells are within the limits, and refer to nodes before them.
use Rattle.std.proofs.Common.{◌≡◌, ℕ, ◌<◌, ◌≤◌, ◌⊎◌, inl, inr, List, [], ◌∷◌, ◌++◌, length, map, get_or, subst, sym, arith}
use Rattle.std.proofs.lemmas.List.{get_or_at, get_or_append_left, get_or-map, length-append, length-map}
use Rattle.std.proofs.lemmas.Bool.{cases_lt}
use Rattle.shared_certificates.specs.Nodes.{Node, Shared, node_view, nothing_shared, table_view}
use Rattle.shared_certificates.specs.Lines.{words}
use Rattle.shared_certificates.specs.Grammar.{AddAll, Adds, adds_nothing, adds_tree, adds_certificate, IsNode}
use Rattle.shared_certificates.specs.declared.nodes.Node as code_node
use Rattle.shared_certificates.specs.declared.nodes.Table.{Table}
use Rattle.shared_certificate_laws.specs.Laws.{IsText, TextIsExact}
use Rattle.table_check.specs.Nodes.{AreNodes, IsSpelled}

-- the same of nodes as plain data
record ArePlain (ns : List Node) : Type 0 where
  pub each : (i : ℕ) (d : Node) → i < length ns → IsNode i (get_or ns i d)

plain-push : (ns : List Node) (n : Node) → ArePlain ns → IsNode (length ns) n → ArePlain (ns ++ n ∷ [])
plain-push ns n h k = record { each = λ i d l. by i d l (cases_lt i (length ns)) }
  where
    by : (i : ℕ) (d : Node) → i < length (ns ++ n ∷ []) → (i < length ns) ⊎ (length ns ≤ i) → IsNode i (get_or (ns ++ n ∷ []) i d)
    by i d l (inl a) = subst (IsNode i) (sym (get_or_append_left ns (n ∷ []) d i a)) (h.each i d a)
    by i d l (inr a) =
        let e : length ns ≡ i = omega (arith, a, l, length-append ns (n ∷ [])) in
        subst (IsNode i) (sym (get_or_at ns n [] d i e)) (subst (λ m. IsNode m n) e k)

plain-added : (t u : Shared) (ws : List (List ℕ)) → ArePlain t.nodes → Adds t ws u → ArePlain u.nodes
plain-added t u ws h (adds_nothing e f) = subst (λ (v : Shared). ArePlain v.nodes) f h
plain-added t u ws h (adds_tree n e few is low f) = subst (λ (v : Shared). ArePlain v.nodes) f (plain-push t.nodes n h is)
plain-added t u ws h (adds_certificate root e few is f) = subst (λ (v : Shared). ArePlain v.nodes) f h

plain-all : (t v : Shared) (ls : List (List ℕ)) → ArePlain t.nodes → AddAll t ls v → ArePlain v.nodes
plain-all t v [] h e = subst (λ (w : Shared). ArePlain w.nodes) e h
plain-all t v (l ∷ ls) h e = plain-all e.0 v ls (plain-added t e.0 (words l) h e.1) e.2

of-plain : (ns : List code_node.Node) → ArePlain (map node_view ns) → AreNodes ns
of-plain ns h = record { each = λ i d l. subst (IsNode i) (get_or-map node_view ns i d (node_view d) l) (h.each i (node_view d) (omega (arith, l, length-map ns node_view))) }

-- a table that is spelled
pub spelled-nodes : (t : Table) → TextIsExact → IsSpelled t → AreNodes t.nodes.items
spelled-nodes t exact s =
    let is : IsText s.0 (table_view t) = (exact s.0 (table_view t)).0 s.1 in
    of-plain t.nodes.items (plain-all nothing_shared (table_view t) is.others (record { each = λ i d l. absurd (omega (arith, l)) }) is.adds)
