-- What the tokens of a block build: trees, from the innermost node that is open.
use Rattle.st_certificate.specs.Tree.{Tree, Trees, branch, by_case, by_truth, by_split, by_cut, impossible, farkas, linear, trees as trees_of}
use Rattle.st_certificate.specs.Plain.{plain}
use Rattle.std.specs.Prelude.{ℕ, ◌-◌, ◌<◌, ◌^◌, Bool, if◌then◌else◌, List, [], ◌∷◌, ◌++◌, Option, Some, None, ℤ, pos, neg_ℤ, map, reverse}
use Rattle.st_linear.specs.Linear.{Linear, of_entries}
use Rattle.cert_text.specs.declared.scan.Branching.{Branching}
use Rattle.cert_text.specs.declared.scan.Branching.TheVariants as nodes
use Rattle.cert_text.specs.declared.scan.Action.{Action}
use Rattle.cert_text.specs.declared.scan.Action.TheVariants as actions
use Rattle.cert_text.specs.declared.tree.Head as code_head
use Rattle.cert_text.specs.declared.tree.Head.TheVariants as code_heads
use Rattle.cert_text.specs.declared.tree.Frame.{Frame}
use Rattle.cert_text.specs.declared.tree.Building.{Building}
use Rattle.cert_text.specs.Heads.{Head}
use Rattle.cert_text.specs.Heads as heads

abbrev pub signed_of : Bool → ℕ → ℤ
signed_of negative n = if negative then neg_ℤ (pos n) else pos n

-- a node whose braces are open, and the trees before it
pub record Open : Type 0 where
  pub head : Head
  pub before : List Tree

-- what is built of a block; of the nodes round it the innermost first
pub record Built : Type 0 where
  pub trees : List Tree
  pub outer : List Open
  pub picks : List (ℕ × ℕ)
  pub lines : List (ℕ × ℤ)
  pub terms : List (ℕ × ℤ)

abbrev pub nothing_built : Built
nothing_built = record { trees = []; outer = []; picks = []; lines = []; terms = [] }

abbrev pub head_view : code_head.Head → Head
head_view (code_heads.Node branching n) = heads.Node branching n
head_view (code_heads.Cut f) = heads.Cut f.value

abbrev pub frame_view : Frame → Open
frame_view f = record { head = head_view f.head; before = map plain f.before.items }

abbrev pub built_view : Building → Built
built_view b = record {
  trees = map plain b.trees.items;
  outer = reverse (map frame_view b.outer.items);
  picks = b.picks.items;
  lines = b.lines.items;
  terms = b.terms.items;
}

abbrev pub branching_of : Branching → ℕ → Trees → Tree
branching_of nodes.Case n ts = branch (by_case n) ts
branching_of nodes.Truth n ts = branch (by_truth n) ts
branching_of nodes.Split n ts = branch (by_split n) ts

-- a node with these trees in its braces
abbrev pub closed : Head → Trees → Tree
closed (heads.Node branching n) ts = branching_of branching n ts
closed (heads.Cut f) ts = branch (by_cut f) ts

abbrev pub tree_added : Built → Tree → Built
tree_added b t = record b { trees = b.trees ++ t ∷ [] }

abbrev pub entered_by : Head → Built → Built
entered_by head b = record b { outer = record { head = head; before = b.trees } ∷ b.outer; trees = [] }

abbrev pub left_to : List Open → Built → Built
left_to [] b = b
left_to (o ∷ os) b = record b { outer = os; trees = o.before ++ closed o.head (trees_of b.trees) ∷ [] }

abbrev pub cut_entered : Option Linear → Built → Built
cut_entered None b = record b { terms = [] }
cut_entered (Some f) b = entered_by (heads.Cut f) (record b { terms = [] })

-- what a token adds
abbrev pub applied : Action → Built → Built
applied actions.Nothing b = b
applied actions.Absurd b = tree_added b impossible
applied (actions.Enter branching n) b = entered_by (heads.Node branching (n - 1)) b
applied actions.Leave b = left_to b.outer b
applied (actions.Pick signed row negative n) b =
    if signed then record b { lines = b.lines ++ (row - 1, signed_of negative n) ∷ [] }
    else record b { picks = b.picks ++ (row - 1, n) ∷ [] }
applied actions.Farkas b = record (tree_added b (farkas b.picks)) { picks = [] }
applied actions.Linear b = record (tree_added b (linear b.lines)) { lines = [] }
applied (actions.Term v negative n) b = record b { terms = b.terms ++ (v - 1, signed_of negative n) ∷ [] }
applied (actions.Cut negative n) b = cut_entered (of_entries (signed_of negative n) b.terms) b

-- a multiplier that fits
abbrev pub IsModest : Action → Type 0
IsModest (actions.Pick signed row negative n) = n < 2 ^ 63
IsModest _ = Unit {0}

-- the last of some trees
abbrev pub last_or : Tree → List Tree → Tree
last_or t [] = t
last_or t (u ∷ us) = last_or u us

unfoldable pub last_tree : List Tree → Tree
last_tree ts = last_or impossible ts
