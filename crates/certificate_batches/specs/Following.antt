-- What the search would write of the next condition, and what it means that a text is that.
use Rattle.std.specs.Prelude.{◌≡◌, ℕ, ◌+◌, ◌≤◌, ◌==◌, Bool, true, false, if◌then◌else◌, List, ◌++◌, codes, length, drop, get_or, IfSome}
use Rattle.st_form.specs.Shared.{given_of, shown_of}
use Rattle.st_form.specs.declared.conditions.Condition.{Condition}
use Rattle.st_certificate.specs.Tree.{Tree}
use Rattle.farkas_check.specs.Problem.{Setting}
use Rattle.farkas_check.specs.Valid.{IsCertificate}
use Rattle.cert_text.specs.Held.{Held}
use Rattle.cert_text.specs.Spelling.{block_text}
use Rattle.cert_laws.specs.Laws.{closed}
use Rattle.search_blocks.specs.Writable.{IsWritable}
use Rattle.shared_search.specs.declared.book.Book.{Book}
use Rattle.shared_search.specs.Books.{Knows}
use Rattle.tree_writing.specs.Standing.{AreWithin}
use Rattle.block_laws.specs.Checked.{checked_from}
use Rattle.block_laws.specs.Plain.{plains}
use Rattle.certificate_batches.specs.declared.claims.Claims.{Claims}
use Rattle.certificate_batches.specs.declared.sheet.Sheet.{Sheet}
use Rattle.certificate_batches.specs.declared.following.Follower.{Follower}
use Rattle.certificate_batches.specs.declared.passing.Compared.{Compared}
use Rattle.certificate_batches.specs.declared.passing.Compared.TheVariants.{Same, Short, Other}
use Rattle.certificate_batches.specs.Claims.{setting_of, conditions_of}
use Rattle.certificate_batches.specs.Turns.{reach}

-- what stands in front of the block of the condition at a place: the header, or the end of the line before
abbrev pub lead : ℕ → List ℕ
lead place = if place == 0 then codes "version 2;\n" else codes "\n"

-- whether a header was taken before it
abbrev pub is_behind : ℕ → Bool
is_behind place = if place == 0 then false else true

-- the block of a tree for the condition at a place, and what stands in front of it
abbrev pub line_of : ℕ → Tree → List ℕ
line_of place t = lead place ++ block_text (place + 1) t

-- a certificate of the condition at a place, which a block within the limits can mean
pub record IsProof (k : Setting) (cs : List Condition) (place : ℕ) (t : Tree) : Type 0 where
  pub valid : (any : Condition) → IsCertificate k (given_of (get_or cs place any)) (shown_of (get_or cs place any)) t
  pub writable : IsWritable t

-- a text is what is written of such a certificate
pub record IsExpected (k : Setting) (cs : List Condition) (place : ℕ) (text : List ℕ) : Type 0 where
  pub tree : Tree
  pub proof : IsProof k cs place tree
  pub written : text ≡ line_of place tree

-- where trees stand is there, and so is where the last line begins
pub record IsSheet (s : Sheet) : Type 0 where
  pub within : AreWithin s.text.items s.places.kept.items
  pub begun : s.start ≤ length s.text.items

-- the line that was written last
abbrev pub last_line : Sheet → List ℕ
last_line s = drop s.start s.text.items

-- what a follower knows while it follows
pub record IsFollowing (claims : Claims) (f : Follower) (b : Book) : Type 0 where
  pub knows : Knows (setting_of claims) b
  pub sheet : IsSheet f.sheet
  pub made : IfSome f.place (λ place. IsExpected (setting_of claims) (conditions_of claims) place (last_line f.sheet))

abbrev pub IsFollower : Claims → Follower → Type 0
IsFollower claims f = IfSome f.book (IsFollowing claims f)

-- what is held behind so many bytes, which were taken for the next block of a text of version 2
abbrev pub passed : Held → ℕ → Held
passed h count = record h { bytes = drop count h.bytes; place = h.place + count; number = h.number + 1; second = true }

-- the condition at a place is discharged by the next block, which was taken unread
pub record IsPassed (k : Setting) (cs : List Condition) (place : ℕ) (before now : Held) : Type 0 where
  pub number : now.number ≡ before.number + 1
  pub finished : now.finished ≡ before.finished
  pub reached : reach now ≤ reach before
  pub discharged : (n : ℕ) (rest : List ℕ)
      → checked_from k (n + 1) (plains (drop (place + 1) cs)) (closed now rest) ≡ checked_from k n (plains (drop place cs)) (closed before rest)

abbrev pub IsCompared : Setting → List Condition → ℕ → Held → Held → Compared → Type 0
IsCompared k cs place before now Same = IsPassed k cs place before now
IsCompared k cs place before now Short = (now ≡ before) × (before.finished ≡ false)
IsCompared k cs place before now Other = now ≡ before
