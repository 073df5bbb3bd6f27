-- How large trees are, by number: what is kept of each is its size, counted to just above the limit.
use Rattle.std.specs.Prelude.{ℕ, ◌+◌, min, nat_lt, if◌then◌else◌, List, [], ◌∷◌, ◌++◌, slice_index_or, Option, Some, None}
use Rattle.st_certificate.specs.Tree.{Tree}
use Rattle.search_laws.specs.Sizes.{nodes}
use Rattle.shared_certificates.specs.Nodes.{Node, contradiction, farkas_sum, linear_sum, division}

-- how many nodes a tree has, or 100,001 where it has more
abbrev pub size_of : Tree → ℕ
size_of t = min (nodes t) 100001

-- the sizes of some numbers together
abbrev pub sum_in : List ℕ → List ℕ → ℕ
sum_in sizes [] = 0
sum_in sizes (n ∷ ns) = slice_index_or sizes n 1 + sum_in sizes ns

-- the size of a node, by those of the trees before it
abbrev pub size_in : List ℕ → Node → ℕ
size_in sizes contradiction = 1
size_in sizes (farkas_sum ps) = 1
size_in sizes (linear_sum ps) = 1
size_in sizes (division s ns) = min (1 + sum_in sizes ns) 100001

-- the sizes of nodes, behind others
abbrev pub sizes_behind : List ℕ → List Node → List ℕ
sizes_behind sizes [] = sizes
sizes_behind sizes (n ∷ ns) = sizes_behind (sizes ++ size_in sizes n ∷ []) ns

-- the first of these numbers whose size is above the limit
abbrev pub large_at : List ℕ → ℕ → List ℕ → Option ℕ
large_at sizes i [] = None
large_at sizes i (n ∷ ns) = if nat_lt 100000 (slice_index_or sizes n 1) then Some i else large_at sizes (i + 1) ns
