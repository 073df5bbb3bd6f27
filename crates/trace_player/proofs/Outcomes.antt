-- How a schedule ends, move by move, as the code plays it: what is made so far, and what is left.
use Rattle.std.proofs.Common.{◌≡◌, ℕ, suc, ◌+◌, ◌<◌, ◌≤◌, true, false, List, [], ◌∷◌, ◌++◌, length, map, take, drop, get_or, Option, Some, None, Result, Ok, Err, refl, ap, ◌∙◌, sym, subst}
use Rattle.std.specs.Prelude.{All, IfSome}
use Rattle.std.specs.Option.{option_map}
use Rattle.std.specs.Result.{IsErrAnd}
use Rattle.std.specs.declared.vec.Vec.{Vec}
use Rattle.std.specs.declared.alloc.Global.{Global}
use Rattle.std.proofs.Math.ListN.{drop_of_length-le}
use Rattle.std.proofs.Math.Numerals.{add-one}
use Rattle.std.proofs.lemmas.List.{drop_more, map-append, take_all}
use Rattle.std.proofs.lemmas.Grind.{take_at_read}
use Rattle.st_form.specs.declared.conditions.TransName.{TransName}
use Rattle.st_form.specs.declared.conditions.TransName.TheVariants.{Idle}
use Rattle.st_form.specs.declared.variables.Variable.{Variable}
use Rattle.st_program.specs.Tree.{Processes}
use Rattle.st_program.specs.declared.residuals.State as GState
use Rattle.spl_semantics.specs.Data.{StoreFits}
use Rattle.spl_semantics.specs.InOrder.{InOrder}
use Rattle.spl_semantics.specs.Limits.{wide_rests}
use Rattle.spl_semantics.specs.Plain.{plain_state, plain_moves}
use Rattle.spl_semantics.specs.Runs.{State}
use Rattle.spl_semantics.specs.Observed.{is_enabled}
use Rattle.spl_semantics.specs.Steps.{steps_of}
use Rattle.spl_semantics.specs.declared.acts.Move.{Move}
use Rattle.trace_player.specs.declared.runs.Played.{Played}
use Rattle.trace_player.specs.declared.faults.PlayFault.{PlayFault}
use Rattle.trace_player.specs.declared.faults.PlayFault.TheVariants as faults
use Rattle.trace_player.specs.Playing.{Outcome, made, too_large, illegal, onto, go_on, outcome, behind_in, behind_move, states_of, is_among, AreEnabled, IsPlayed, Plays, Surveyed, Noted}
use Rattle.trace_player.proofs.Ordered.{same-behind, names-enabled}

-- these steps, and then how the rest ends
abbrev pub ontos : List (TransName × State) → Outcome → Outcome
ontos [] r = r
ontos (step ∷ done) r = onto step.0 step.1 (ontos done r)

ontos-more : (done : List (TransName × State)) (name : TransName) (t : State) (r : Outcome) → ontos (done ++ (name, t) ∷ []) r ≡ ontos done (onto name t r)
ontos-more [] name t r = refl
ontos-more (step ∷ done) name t r = ap (onto step.0 step.1) (ontos-more done name t r)

ontos-made : (done : List (TransName × State)) → ontos done (made []) ≡ made done
ontos-made [] = refl
ontos-made (step ∷ done) = ap (onto step.0 step.1) (ontos-made done)

ontos-large : (done : List (TransName × State)) (k : ℕ) → ontos done (too_large k) ≡ too_large k
ontos-large [] k = refl
ontos-large (step ∷ done) k = ap (onto step.0 step.1) (ontos-large done k)

ontos-illegal : (done : List (TransName × State)) (k : ℕ) → ontos done (illegal k) ≡ illegal k
ontos-illegal [] k = refl
ontos-illegal (step ∷ done) k = ap (onto step.0 step.1) (ontos-illegal done k)

-- one state and its names more
rows-more : (p : Processes) (ss : List State) (rows : List (Vec TransName Global)) (s : State) (row : Vec TransName Global) → AreEnabled p ss rows
    → ((name : TransName) → is_among name row.items ≡ is_enabled p s name) → AreEnabled p (ss ++ s ∷ []) (rows ++ row ∷ [])
rows-more p [] [] s row h k = (k, tt)
rows-more p [] (r ∷ rows) s row h k = absurd h
rows-more p (x ∷ ss) [] s row h k = absurd h
rows-more p (x ∷ ss) (r ∷ rows) s row h k = (h.0, rows-more p ss rows s row h.1 k)

-- the states before the one at position k, their names, and how the moves from there end
pub record Playing (p : Processes) (s : State) (all : List TransName) (states : List GState.State) (enabled : List (Vec TransName Global)) (now : GState.State) (k : ℕ) : Type 0 where
  pub done : List (TransName × State)
  pub seen : map plain_state states ++ plain_state now ∷ [] ≡ states_of s done
  pub names : take k all ≡ map (λ step. step.0) done
  pub rows : AreEnabled p (map plain_state states) enabled
  pub rest : ontos done (outcome p (drop k all) (plain_state now) k) ≡ outcome p all s 0

pub starts : (p : Processes) (now : GState.State) (all : List TransName) → Playing p (plain_state now) all [] [] now 0
starts p now all = record { done = []; seen = refl; names = refl; rows = tt; rest = refl }

module _ (p : Processes) (s : State) (all : List TransName) (states : List GState.State) (enabled : List (Vec TransName Global)) (now : GState.State) (k : ℕ) (g : Playing p s all states enabled now k) where
  abbrev here : State
  here = plain_state now

  wide-outcome : wide_rests here.left p here.store ≡ true → (names : List TransName) → outcome p names here k ≡ too_large k
  wide-outcome h [] = rw h refl
  wide-outcome h (name ∷ names) = rw h refl

  -- a fault of the survey is the answer
  pub stops : (j : ℕ) → j ≡ k → (r : Result Played PlayFault) (fault : PlayFault) → IsErrAnd r (λ y. y ≡ fault) → Surveyed p here j (Err fault) → Plays p s all r
  stops j at (Ok x) fault is h = absurd is
  stops j at (Err y) fault is h = subst (λ z. Plays p s all (Err z)) (sym is) (at_fault fault (subst (λ i. Surveyed p here i (Err fault)) at h))
    where
      at_fault : (fault : PlayFault) → Surveyed p here k (Err fault) → Plays p s all (Err fault)
      at_fault faults.NoStart h = absurd h
      at_fault (faults.ValueLimit j) h = rw h.0 (sym g.rest ∙ ap (ontos g.done) (wide-outcome h.1 (drop k all)) ∙ ontos-large g.done k)
      at_fault (faults.Illegal j) h = absurd h
      at_fault faults.Memory h = tt

  -- the state is noted
  noted-rows : (moves read : List Move) (states' : List GState.State) (enabled' : List (Vec TransName Global)) → InOrder (steps_of here.left p here.store) moves → read ≡ moves
      → Noted states enabled now read states' enabled' → AreEnabled p (map plain_state states') enabled'
  noted-rows moves read states' enabled' order same noted =
      subst (λ l. AreEnabled p (map plain_state l) enabled') (sym noted.states)
      (subst (λ l. AreEnabled p l enabled') (sym (map-append plain_state states (now ∷ [])))
      (subst (AreEnabled p (map plain_state states ++ here ∷ [])) (sym noted.rows)
      (rows-more p (map plain_state states) enabled here noted.row g.rows
      (λ name. ap (is_among name) (noted.names ∙ ap (λ l. Idle ∷ map (λ m. m.name) l) same) ∙ names-enabled p here moves order name))))

  module _ (narrow : wide_rests here.left p here.store ≡ false) where
    narrow-end : outcome p [] here k ≡ made []
    narrow-end = rw narrow refl

    narrow-move : (name : TransName) (names : List TransName) → outcome p (name ∷ names) here k ≡ go_on (behind_move p here name) (λ t. outcome p names t (suc k)) name k
    narrow-move name names = rw narrow refl

    module _ (d : TransName) (within : k < length all) where
      abbrev name : TransName
      name = get_or all k d

      moved : outcome p (drop k all) here k ≡ go_on (behind_move p here name) (λ t. outcome p (drop (k + 1) all) t (suc k)) name k
      moved = ap (λ l. outcome p l here k) (drop_more all k d within) ∙ narrow-move name (drop (k + 1) all)

      -- the move isn't enabled
      pub breaks : behind_move p here name ≡ None → outcome p all s 0 ≡ illegal k
      breaks none = sym g.rest ∙ ap (ontos g.done) (moved ∙ ap (λ o. go_on o (λ t. outcome p (drop (k + 1) all) t (suc k)) name k) none) ∙ ontos-illegal g.done k

      -- the move leads to the next state
      pub goes : (next : GState.State) (moves read : List Move) (states' : List GState.State) (enabled' : List (Vec TransName Global))
          → behind_move p here name ≡ Some (plain_state next) → InOrder (steps_of here.left p here.store) moves → read ≡ moves → Noted states enabled now read states' enabled'
          → Playing p s all states' enabled' next (k + 1)
      goes next moves read states' enabled' leads order same noted =
          let step : TransName × State = (name, plain_state next) in
          record {
            done = g.done ++ step ∷ [];
            seen =
                ap (λ l. map plain_state l ++ plain_state next ∷ []) noted.states
                ∙ ap (λ l. l ++ plain_state next ∷ []) (map-append plain_state states (now ∷ []) ∙ g.seen)
                ∙ ap (λ l. s ∷ l) (sym (map-append (λ x. x.1) g.done (step ∷ [])));
            names =
                (take_at_read all k d within).1
                ∙ ap (λ l. l ++ name ∷ []) g.names
                ∙ sym (map-append (λ x. x.0) g.done (step ∷ []));
            rows = noted-rows moves read states' enabled' order same noted;
            rest =
                ap (λ j. ontos (g.done ++ step ∷ []) (outcome p (drop (k + 1) all) (plain_state next) j)) (add-one k)
                ∙ ontos-more g.done name (plain_state next) (outcome p (drop (k + 1) all) (plain_state next) (suc k))
                ∙ ap (ontos g.done) (sym (moved ∙ ap (λ o. go_on o (λ t. outcome p (drop (k + 1) all) t (suc k)) name k) leads))
                ∙ g.rest;
          }

    -- all moves are made
    pub ends : (moves read : List Move) (states' : List GState.State) (enabled' : List (Vec TransName Global)) (played : Played) → length all ≤ k
        → InOrder (steps_of here.left p here.store) moves → read ≡ moves → Noted states enabled now read states' enabled'
        → played.states.items ≡ states' → played.names.items ≡ all → played.enabled.items ≡ enabled'
        → (later : List (TransName × State)) × (outcome p all s 0 ≡ made later) × IsPlayed p s later played
    ends moves read states' enabled' played over order same noted states_are names_are enabled_are =
        let seen : map plain_state states' ≡ states_of s g.done = ap (map plain_state) noted.states ∙ map-append plain_state states (now ∷ []) ∙ g.seen in (
          g.done,
          sym g.rest ∙ ap (λ l. ontos g.done (outcome p l here k)) (drop_of_length-le all over) ∙ ap (ontos g.done) narrow-end ∙ ontos-made g.done,
          record {
            states = ap (map plain_state) states_are ∙ seen;
            names = names_are ∙ sym (take_all k all over) ∙ g.names;
            enabled = subst (λ l. AreEnabled p l played.enabled.items) seen (subst (AreEnabled p (map plain_state states')) (sym enabled_are) (noted-rows moves read states' enabled' order same noted));
          },
        )

-- the state that the code found, from the steps in order
module _ (p : Processes) (now : GState.State) (moves read : List Move) (order : InOrder (steps_of (plain_state now).left p (plain_state now).store) moves) (same : read ≡ moves) (o : Option GState.State) where
  found : (wanted : TransName) → option_map plain_state o ≡ behind_in (plain_moves read) (plain_state now) wanted → behind_move p (plain_state now) wanted ≡ option_map plain_state o
  found wanted h =
      sym (same-behind (steps_of (plain_state now).left p (plain_state now).store) moves order (plain_state now) wanted)
      ∙ ap (λ l. behind_in (plain_moves l) (plain_state now) wanted) (sym same)
      ∙ sym h

  pub found-some : (wanted : TransName) (next : GState.State) → option_map plain_state o ≡ behind_in (plain_moves read) (plain_state now) wanted → o ≡ Some next → behind_move p (plain_state now) wanted ≡ Some (plain_state next)
  found-some wanted next h is = found wanted h ∙ ap (option_map plain_state) is

  pub found-none : (wanted : TransName) → option_map plain_state o ≡ behind_in (plain_moves read) (plain_state now) wanted → ((x : GState.State) → o ≡ Some x → ⊥) → behind_move p (plain_state now) wanted ≡ None
  found-none wanted h absent = found wanted h ∙ none o absent
    where
      none : (o : Option GState.State) → ((x : GState.State) → o ≡ Some x → ⊥) → option_map plain_state o ≡ None
      none None absent = refl
      none (Some x) absent = absurd (absent x refl)

abbrev AllFit : List Variable → List Move → Type 0
AllFit vs moves = All (λ m. StoreFits vs m.state.store.items) moves

pub found-fits : (vs : List Variable) (moves read : List Move) (o : Option GState.State) (next : GState.State) → read ≡ moves → o ≡ Some next → AllFit vs moves → (AllFit vs read → IfSome o (λ s. StoreFits vs s.store.items)) → StoreFits vs next.store.items
found-fits vs moves read o next same is fit h = subst (λ x. IfSome x (λ s. StoreFits vs s.store.items)) is (h (subst (AllFit vs) (sym same) fit))
