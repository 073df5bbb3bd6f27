-- What is told of a text of version 3 that is unfolded, and of a text of version 1 or 2 whose certificates share their trees.
use Rattle.std.specs.Prelude.{◌≡◌, ℕ, ◌<◌, true, List, [], ◌∷◌, map, length, Option, Some, None, Result, Ok, Err}
use Rattle.std.specs.declared.vec.Vec.{Vec}
use Rattle.std.specs.declared.alloc.Global.{Global}
use Rattle.st_certificate.specs.Tree.{Tree}
use Rattle.st_certificate.specs.Plain.{plain}
use Rattle.st_certificate.specs.declared.Certificate.{Certificate}
use Rattle.cert_text.specs.Answer.{Answer, block, need, no_more, malformed_at, limit_at}
use Rattle.cert_text.specs.Held.{Held, nothing_held, answer_of, taken_from}
use Rattle.shared_certificates.specs.Nodes.{Shared, certificates}
use Rattle.shared_certificates.specs.Reading.{Refused}
use Rattle.shared_certificates.specs.declared.refusals.Refusal.{Refusal}
use Rattle.shared_certificates.specs.declared.refusals.Refusal.TheVariants as refusals
use Rattle.shared_writing.specs.Writing.{text_of}
use Rattle.certificate_unfolding.specs.Texts.{large_from, version_2_text}
use Rattle.certificate_versions.specs.declared.unfolding.Unfit.{Unfit}
use Rattle.certificate_versions.specs.declared.unfolding.Unfit.TheVariants as unfits
use Rattle.certificate_versions.specs.declared.sharing.Unread.{Unread}
use Rattle.certificate_versions.specs.declared.sharing.Unread.TheVariants as unreads

-- what is told of certificates that are unfolded
abbrev pub IsUnfolded : Result (Vec ℕ Global) Unfit → List Tree → Type 0
IsUnfolded (Ok v) ts = (large_from 0 ts ≡ None) × (v.items ≡ version_2_text ts)
IsUnfolded (Err (unfits.Malformed place)) ts = ⊥
IsUnfolded (Err (unfits.Limit place)) ts = ⊥
IsUnfolded (Err (unfits.Large i)) ts = large_from 0 ts ≡ Some i
IsUnfolded (Err unfits.Long) ts = (large_from 0 ts ≡ None) × (268435456 < length (version_2_text ts))
IsUnfolded (Err unfits.Memory) ts = Unit {0}

-- the refusal of a line
abbrev pub unfit_of : Refusal → ℕ → Unfit
unfit_of refusals.Malformed place = unfits.Malformed place
unfit_of refusals.Limit place = unfits.Limit place
unfit_of refusals.Memory place = unfits.Memory

-- the first line that isn't taken is told, with why
abbrev pub Refuses : Result (Vec ℕ Global) Unfit → Refused → Type 0
Refuses (Ok v) r = ⊥
Refuses (Err (unfits.Malformed place)) r = r ≡ (refusals.Malformed, place)
Refuses (Err (unfits.Limit place)) r = r ≡ (refusals.Limit, place)
Refuses (Err (unfits.Large i)) r = ⊥
Refuses (Err unfits.Long) r = ⊥
Refuses (Err unfits.Memory) r = Unit {0}

-- what is told of a text of version 3, by what is read of it
abbrev pub Unfolds : Result (Vec ℕ Global) Unfit → Result Shared Refused → Type 0
Unfolds told (Ok t) = IsUnfolded told (certificates t)
Unfolds told (Err r) = Refuses told r

-- a reader that has a whole text
abbrev pub whole : List ℕ → Held
whole text = record nothing_held { bytes = text; finished = true }

-- the certificate that is answered
abbrev pub told_tree : Answer → Option Tree
told_tree (block number t) = Some t
told_tree need = None
told_tree no_more = None
told_tree (malformed_at place) = None
told_tree (limit_at place) = None

-- certificates that are read of it one after the other, and what it holds behind them
abbrev pub AreRead : Held → List Tree → Held → Type 0
AreRead h [] k = h ≡ k
AreRead h (t ∷ ts) k = (told_tree (answer_of h) ≡ Some t) × AreRead (taken_from h) ts k

-- what is told of the next one
abbrev pub IsNext : Held → Result (Option Certificate) Unread → Type 0
IsNext h (Ok (Some c)) = told_tree (answer_of h) ≡ Some (plain c)
IsNext h (Ok None) = answer_of h ≡ no_more
IsNext h (Err (unreads.Malformed place)) = answer_of h ≡ malformed_at place
IsNext h (Err (unreads.Limit place)) = answer_of h ≡ limit_at place
IsNext h (Err unreads.Deep) = ⊥
IsNext h (Err unreads.Memory) = Unit {0}

-- these are all certificates of a text
abbrev pub AreAll : Held → List Tree → Type 0
AreAll h ts = (k : Held) × AreRead h ts k × (answer_of k ≡ no_more)

-- behind some of them it is malformed at this place, or passes a limit
abbrev pub IsMalformed : Held → ℕ → Type 0
IsMalformed h place = (ts : List Tree) × (k : Held) × AreRead h ts k × (answer_of k ≡ malformed_at place)

abbrev pub IsOver : Held → ℕ → Type 0
IsOver h place = (ts : List Tree) × (k : Held) × AreRead h ts k × (answer_of k ≡ limit_at place)

-- what is told of all certificates
abbrev pub AreAllOf : Held → Result (Vec Certificate Global) Unread → Type 0
AreAllOf h (Ok v) = AreAll h (map plain v.items)
AreAllOf h (Err (unreads.Malformed place)) = IsMalformed h place
AreAllOf h (Err (unreads.Limit place)) = IsOver h place
AreAllOf h (Err unreads.Deep) = ⊥
AreAllOf h (Err unreads.Memory) = Unit {0}

-- what is told of their text of version 3
abbrev pub Shares : Held → Result (Vec ℕ Global) Unread → Type 0
Shares h (Ok v) = (t : Shared) × AreAll h (certificates t) × (v.items ≡ text_of t)
Shares h (Err (unreads.Malformed place)) = IsMalformed h place
Shares h (Err (unreads.Limit place)) = IsOver h place
Shares h (Err unreads.Deep) = Unit {0}
Shares h (Err unreads.Memory) = Unit {0}
