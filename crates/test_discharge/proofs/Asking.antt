-- What the search and the check ask of conditions that true implies a truth value.
use Rattle.std.proofs.Common.{◌≡◌, ℕ, List, [], ◌∷◌, length, sym, subst}
use Rattle.st_form.specs.declared.conditions.Condition.{Condition}
use Rattle.cert_text.specs.declared.reader.Block.{Block}
use Rattle.farkas_check.specs.Limits.{IsNarrow, IsLimited}
use Rattle.search_laws.specs.Forms.{AllForms}
use Rattle.search_laws.specs.Searchable.{IsBelow}
use Rattle.block_validity.specs.First.{IsCheckable, AreCheckable}
use Rattle.search_laws.specs.Searchable.{IsSearchable, AreSearchable}
use Rattle.test_discharge.specs.Implied.{IsImplied, AreImplied, IsAbsurd, AreAbsurd}

searchable : (n : ℕ) (c : Condition) → IsImplied c → IsSearchable n c
searchable n c i = record {
  given = subst IsNarrow (sym i.given) (tt, tt);
  shown = subst IsNarrow (sym i.shown) tt;
  given_below = subst (AllForms (IsBelow n)) (sym i.given) (tt, tt);
  shown_below = subst (AllForms (IsBelow n)) (sym i.shown) tt;
}

pub all_searchable : (n : ℕ) (cs : List Condition) → AreImplied cs → AreSearchable n cs
all_searchable n [] all = tt
all_searchable n (c ∷ cs) all = (searchable n c all.0, all_searchable n cs all.1)

checkable : (c : Condition) (b : Block) → IsImplied c → IsAbsurd b → IsCheckable c b
checkable c b i a = record {
  limited = subst IsLimited (sym a) tt;
  given = subst IsNarrow (sym i.given) (tt, tt);
  shown = subst IsNarrow (sym i.shown) tt;
}

pub all_checkable : (cs : List Condition) (bs : List Block) → AreImplied cs → AreAbsurd bs → length cs ≡ length bs → AreCheckable cs bs
all_checkable [] [] all absurds same = tt
all_checkable [] (b ∷ bs) all absurds same = absurd (cc)
all_checkable (c ∷ cs) [] all absurds same = absurd (cc)
all_checkable (c ∷ cs) (b ∷ bs) all absurds same = (checkable c b all.0 absurds.0, all_checkable cs bs all.1 absurds.1 (cc))
