-- Readers that judge, beside plain ones, at tokens that are whole whatever follows them.
use Rattle.std.proofs.Common.{◌≡◌, ℕ, suc, ◌+◌, Bool, List, [], ◌∷◌, length, Ok, Err, ◌⊎◌, inl, inr, refl, sym, ap, subst, ◌∙◌}
use Rattle.st_tokens.specs.Stream.{◌++>◌, Lexeme, Stream, ends, breaks, more}
use Rattle.st_reading.specs.declared.sign.Sign.{Sign}
use Rattle.st_reading.specs.Reading.{Stop, syntax, broken, other, refusal}
use Rattle.st_reading.specs.Breaches.{Breach, Reader}
use Rattle.st_reading.specs.BrokenRules.{Broken}
use Rattle.st_reading.proofs.Spelled.{none_spelled}
use Rattle.st_reading.proofs.Soundness.{values}
use Rattle.st_reading.proofs.Judging.{Settled, closed, JudgedAt, good, bad, alike}
use Rattle.schedule_grammar.specs.FirstFault.{IsSyntactic}

pub refusal_syntactic : (s : Stream) → IsSyntactic (refusal s)
refusal_syntactic (ends p) = tt
refusal_syntactic (breaks f) = tt
refusal_syntactic (more t s) = tt

pub no_breach : (f : Stop Breach) → IsSyntactic f → (breach : Breach) → f ≡ other breach → ⊥
no_breach (syntax p) h breach e = cc
no_breach (broken f) h breach e = cc
no_breach (other x) h breach e = h

-- nothing goes on with what is whole
pub closed_settles : (s : Stream) → Settled closed s
closed_settles (ends p) = tt
closed_settles (breaks f) = tt
closed_settles (more t s) = refl

module _ {A B : Type 0} (calm : Sign → Bool) (at : ℕ) (judge : Reader A) (plain : Reader B) (count : B → ℕ) (rules : B → List (Broken Breach)) (makes : B → A → Type 0) where
  abbrev pub Judged : Stream → Type 0
  Judged s = JudgedAt IsSyntactic calm at judge plain count rules makes s

  -- neither reads what stands there
  pub both_refuse : (s : Stream) → judge s ≡ Err (refusal s) → plain s ≡ Err (refusal s) → Judged s
  both_refuse s h k = alike (refusal s) (refusal_syntactic s) h k

  -- a rule is broken at the last token
  pub breaks_at : (t : Lexeme) (ts : List Lexeme) (rest : Stream) (b : B) (first : Broken Breach) (further : List (Broken Breach)) → first.found ≡ at + suc (length ts) → rules b ≡ first ∷ further
      → ((after : Stream) → plain (more t (ts ++> after)) ≡ Ok (b, after)) → ((after : Stream) → judge (more t (ts ++> after)) ≡ Err (other first.fault)) → Judged (more t (ts ++> rest))
  breaks_at t ts rest b first further found said read stops =
      bad t ts rest first closed refl found (closed_settles rest) (λ after h. stops after)
      (λ after x m h r. let v = values (plain (more t (ts ++> after))) b x after m (read after) r in (further, ap rules (sym v.0) ∙ said))
      (record { others = []; spelled = none_spelled; value = b; reads = λ after h. read after; settled = λ after h. closed_settles after }) (λ d g. absurd cc)

  -- where the plain reader reads, the judging one reads as well, or names what is broken
  pub reads_or_breaks : (s : Stream) → Judged s → (b : B) (rest : Stream) → plain s ≡ Ok (b, rest) → ((a : A) × (judge s ≡ Ok (a, rest)) × makes b a) ⊎ ((breach : Breach) × (judge s ≡ Err (other breach)))
  reads_or_breaks s (good ts x a m is go go2 many none made) b rest h =
      let v = values (plain s) x b m rest (ap plain is ∙ go m refl) h in
      inl (a, ap judge is ∙ go2 m refl ∙ ap (λ z. Ok (a, z)) v.1, subst (λ z. makes z a) v.0 made)
  reads_or_breaks s (bad t ts m first open_to is found settles stops told v onward) b rest h = inr (first.fault, ap judge is ∙ stops m settles)
  reads_or_breaks s (alike f q h k) b rest r = absurd cc
