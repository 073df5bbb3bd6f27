-- What the search finds for the condition at a place is a certificate of it that can be written, and a line of it is what is expected.
use Rattle.std.proofs.Common.{◌≡◌, ℕ, ◌<◌, ◌^◌, List, length, sym, subst}
use Rattle.std.specs.Prelude.{Option, Some, None, IfSome, slice_get}
use Rattle.std.proofs.lemmas.Option.{get_or_from_slice_get}
use Rattle.st_form.specs.Shared.{given_of, shown_of}
use Rattle.st_form.specs.declared.conditions.Condition.{Condition}
use Rattle.farkas_check.specs.Problem.{Setting}
use Rattle.farkas_check.specs.Valid.{IsCertificate}
use Rattle.search_laws.specs.Forms.{AllForms, IsInOrder}
use Rattle.search_laws.specs.Laws.{CertificatesAreValid}
use Rattle.search_laws.specs.Searchable.{IsSearchable}
use Rattle.search_laws.specs.Steady.{HasEntries}
use Rattle.linear_prover.proofs.Readying.{proper}
use Rattle.shared_search.specs.declared.book.Book.{Book}
use Rattle.shared_search.specs.Books.{IsFound, IsThere, tree_in}
use Rattle.search_blocks.specs.Laws.{FoundAreWritten}
use Rattle.certificate_batches.specs.Following.{IsProof}

module _ (valid : CertificatesAreValid) (written : FoundAreWritten) (k : Setting) (order : IsInOrder k.control) (parts : length k.control.components < 2 ^ 32) (variables : length k.variables < 2 ^ 32) where
  pub found_proof : (cs : List Condition) (place : ℕ) (c : Condition) (b : Book) (o : Option ℕ) → slice_get cs place ≡ Some c → IsSearchable (length k.variables) c → AllForms HasEntries (given_of c)
      → AllForms HasEntries (shown_of c) → IsFound k (given_of c) (shown_of c) b o → IfSome o (λ n. IsThere b n × IsProof k cs place (tree_in b n))
  found_proof cs place c b None at it given shown found = tt
  found_proof cs place c b (Some n) at it given shown found =
      let t = tree_in b n in
      let given_proper = proper (length k.variables) (given_of c) given it.given_below in
      let shown_proper = proper (length k.variables) (shown_of c) shown it.shown_below in
      let proved = valid k (given_of c) (shown_of c) t given_proper shown_proper found.1 in (
        found.0,
        record {
          valid = λ any. subst (λ (d : Condition). IsCertificate k (given_of d) (shown_of d) t) (sym (get_or_from_slice_get cs place c any at)) proved.certificate;
          writable = written k (given_of c) (shown_of c) t order parts variables given_proper shown_proper found.1;
        },
      )
