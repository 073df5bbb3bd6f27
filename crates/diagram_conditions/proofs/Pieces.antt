-- Appending pieces of a list of conditions one behind the other, and walks over the nodes of a diagram.
use Rattle.std.proofs.Common.{◌≡◌, ◌∙◌, ap, sym, subst, arith, ℕ, zero, suc, ◌+◌, ◌<◌, List, [], ◌∷◌, ◌++◌, append_assoc, append-nil, None, length, map, drop, get_or, Result, Ok, Err}
use Rattle.std.proofs.lemmas.List.{drop_more}
use Rattle.st_form.specs.Condition.{Implication}
use Rattle.temporal_goals.specs.Texts.{PlainDrawnNode}
use Rattle.temporal_goals.specs.Plain.{plain_drawn_node}
use Rattle.temporal_goals.specs.declared.diagrams.DiagramNode.{DiagramNode}
use Rattle.vc_generator.specs.Building.{Draft}
use Rattle.vc_generator.specs.declared.faults.VcFault.{VcFault}
use Rattle.vc_generator.specs.Refusing.{refusals, Grows}
use Rattle.vc_generator.proofs.Growing.{conditions, conditions-append, refusals-then, Left, left-all, left-on, left-refused}
use Rattle.rule_laws.specs.Diagrams.{drawn_rank, each_node}
use Rattle.rule_fits.specs.Fitting.{CanFall}
use Rattle.diagram_conditions.specs.Asked.{RanksCanFall}

-- the pieces before are appended, and the others behind them
pub grow-behind : (r : Result (Unit {0}) VcFault) (old mid new : List Implication) (ds es : List Draft) → refusals old ds ≡ None → mid ≡ old ++ conditions ds → Grows r mid new es → Grows r old new (ds ++ es)
grow-behind (Ok x) old mid new ds es none is grows = (
  refusals-then old ds es none ∙ ap (λ cs. refusals cs es) (sym is) ∙ grows.0,
  grows.1 ∙ ap (λ cs. cs ++ conditions es) is ∙ append_assoc old (conditions ds) (conditions es) ∙ ap (λ cs. old ++ cs) (sym (conditions-append ds es)),
)
grow-behind (Err fault) old mid new ds es none is grows =
    let all : Left old old (ds ++ es) (ds ++ (es ++ [])) = subst (Left old old (ds ++ es)) (ap (λ zs. ds ++ zs) (sym (append-nil es))) (left-all old (ds ++ es)) in
    left-refused old mid new (ds ++ es) es [] fault (left-on old old mid (ds ++ es) ds (es ++ []) all none is) grows.0 grows.1

-- what refuses a piece refuses it with others behind it
pub refused-before : (fault : VcFault) (old new : List Implication) (ds es : List Draft) → Grows (Err fault) old new ds → Grows (Err fault) old new (ds ++ es)
refused-before fault old new ds es grows = left-refused old old new (ds ++ es) ds es fault (left-all old (ds ++ es)) grows.0 grows.1

-- the next node of a walk
pub node-next : (f : PlainDrawnNode → List Draft) (i : ℕ) (xs : List DiagramNode) (x : DiagramNode) (old now : List Implication) (all : List Draft) → i < length xs → x ≡ get_or xs i x
    → Left old now all (each_node f (map plain_drawn_node (drop i xs))) → Left old now all (f (plain_drawn_node x) ++ each_node f (map plain_drawn_node (drop (i + 1) xs)))
node-next f i xs x old now all below is left =
    let next = drop_more xs i x below in
    subst (Left old now all) (ap (λ ys. each_node f (map plain_drawn_node ys)) next ∙ ap (λ y. f (plain_drawn_node y) ++ each_node f (map plain_drawn_node (drop (i + 1) xs))) (sym is)) left

-- the rank of each node can fall
pub fall-at : (xs : List DiagramNode) (i : ℕ) (x d : DiagramNode) → i < length xs → x ≡ get_or xs i d → RanksCanFall (map plain_drawn_node xs) → CanFall (drawn_rank (plain_drawn_node x))
fall-at [] i x d below is all = absurd (omega arith)
fall-at (y ∷ ys) zero x d below is all = subst (λ z. CanFall (drawn_rank (plain_drawn_node z))) (sym is) all.0
fall-at (y ∷ ys) (suc i) x d below is all = fall-at ys i x d (omega arith) is all.1
