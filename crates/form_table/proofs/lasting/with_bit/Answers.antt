use Rattle.std.proofs.Common.{◌∙◌, inl, inr, sym, w64, ⊎_elim}
use Rattle.std.proofs.lemmas.Bool.{cases_eq}
use Rattle.std.proofs.lemmas.Nat.Bits.{bit_at_set_other}
use Rattle.form_table.proofs.lasting.with_bit.Goals as goal

pub returns : goal.returns
returns c e h = ⊎_elim (λ same. inr same) (λ other. inl (sym (bit_at_set_other w64 c.args.word c.args.bit c.requires e other) ∙ h)) (cases_eq e c.args.bit)
