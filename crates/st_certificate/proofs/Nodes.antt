-- The plain data of each node, for proofs over certificates of the program.
use Rattle.std.proofs.Common.{◌≡◌, ℕ, ℤ, sym, ap, ◌∙◌, Vec, Box, Global}
use Rattle.st_linear.specs.Linear.{Linear}
use Rattle.st_certificate.specs.Tree.{Tree, by_case, by_truth, by_split, by_cut, impossible, branch, farkas, linear}
use Rattle.st_certificate.specs.Plain.{plain, plain_trees, node}
use Rattle.st_certificate.specs.declared.Certificate.{Certificate, Case, Bool, Split, Cut, Absurd, Farkas, Linear as LinearLeaf}
use Rattle.st_certificate.specs.declared.Certificate.TheOpen.{Certificate-F}
use Rattle.st_certificate.specs.declared.Certificate.TheFolds.{fold-roll-Certificate}
use Rattle.st_certificate.specs.declared.Certificate.TheViews.{rolls-Case, rolls-Bool, rolls-Split, rolls-Cut, rolls-Absurd, rolls-Farkas, rolls-Linear}

pub plain-Case : (c : ℕ) (ts : Vec Certificate Global) → plain (Case c ts) ≡ branch (by_case c) (plain_trees ts.items)
plain-Case c ts = ap plain (sym (rolls-Case c ts)) ∙ fold-roll-Certificate Tree node (Certificate-F.Case c ts)

pub plain-Bool : (v : ℕ) (ts : Vec Certificate Global) → plain (Bool v ts) ≡ branch (by_truth v) (plain_trees ts.items)
plain-Bool v ts = ap plain (sym (rolls-Bool v ts)) ∙ fold-roll-Certificate Tree node (Certificate-F.Bool v ts)

pub plain-Split : (k : ℕ) (ts : Vec Certificate Global) → plain (Split k ts) ≡ branch (by_split k) (plain_trees ts.items)
plain-Split k ts = ap plain (sym (rolls-Split k ts)) ∙ fold-roll-Certificate Tree node (Certificate-F.Split k ts)

pub plain-Cut : (f : Box Linear Global) (ts : Vec Certificate Global) → plain (Cut f ts) ≡ branch (by_cut f.value) (plain_trees ts.items)
plain-Cut f ts = ap plain (sym (rolls-Cut f ts)) ∙ fold-roll-Certificate Tree node (Certificate-F.Cut f ts)

pub plain-Absurd : plain Absurd ≡ impossible
plain-Absurd = ap plain (sym rolls-Absurd) ∙ fold-roll-Certificate Tree node Certificate-F.Absurd

pub plain-Farkas : (ps : Vec (ℕ × ℕ) Global) → plain (Farkas ps) ≡ farkas ps.items
plain-Farkas ps = ap plain (sym (rolls-Farkas ps)) ∙ fold-roll-Certificate Tree node (Certificate-F.Farkas ps)

pub plain-Linear : (ps : Vec (ℕ × ℤ) Global) → plain (LinearLeaf ps) ≡ linear ps.items
plain-Linear ps = ap plain (sym (rolls-Linear ps)) ∙ fold-roll-Certificate Tree node (Certificate-F.Linear ps)

-- enough for most functions: a node without parts unfolds by itself
pub ruleset nodes = (plain-Case, plain-Bool, plain-Split, plain-Cut)

pub ruleset all_nodes = (plain-Case, plain-Bool, plain-Split, plain-Cut, plain-Absurd, plain-Farkas, plain-Linear)
