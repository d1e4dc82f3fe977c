-- The turns of an append.
use Rattle.std.proofs.Common.{◌≡◌, ℕ, ◌⊎◌, inl, inr, false, List, length, Option, None, Some, refl, sym, ◌∙◌, ap, subst}
use Rattle.std.specs.Prelude.{unwrap_or}
use Rattle.tdb_space.specs.Form.{Form}
use Rattle.tdb_space.specs.Pairs.{map_of}
use Rattle.tdb_space.specs.NewRecord.{rec_len_for}
use Rattle.tdb_space.specs.Extents.{HandPair}
use Rattle.tdb_space.specs.Accepted.{AcceptWith}
use Rattle.tdb_chain.specs.declared.place.Place.{Place}
use Rattle.tdb_locks.specs.declared.turn.Reply.{Reply}
use Rattle.tdb_steps.specs.declared.flag.Flag.TheVariants as Flags
use Rattle.tdb_steps.specs.declared.stage.Stage.{Stage}
use Rattle.tdb_steps.specs.declared.stage.Next.{Next}
use Rattle.tdb_steps.specs.Asked.{appends, joined, stores}
use Rattle.tdb_steps.specs.Stages.{IsKnown, is_changed, is_changed_after, JoinedAfter}
use Rattle.tdb_steps.specs.Turns.{MapBy, TurnMade, Makes, AppendMade, AppendMakes, Finds, UpdatesRightly, StoresRightly, AppendsRightly}
use Rattle.tdb_steps.specs.Order.{StoreOrder}
use Rattle.tdb_steps.proofs.Made.{never_true, as_append, joined_after}

module _ (f : Form) (a b key more : List ℕ) (was whole : Option (List ℕ)) where
  -- the look
  pub look_appended : (next : Next) → Makes f a b key (appends more) Stage.Chained next → ((hands : List HandPair) → AcceptWith f a hands → (next ≡ Next.Done Reply.Memory) ⊎ (unwrap_or whole more ≡ joined (map_of f a key) more)) → AppendMakes f a b key more was whole Stage.Chained next
  look_appended (Next.Step onto) made same others A K J = let T = made others A K in record { made = T; has_joined = elim (same others A) [ inl starved ↦ cc | inr is ↦ joined_after f a b key more whole (Next.Step onto) is T.map ] }
  look_appended (Next.Done reply) made same others A K J = record { made = made others A K; has_joined = tt }

  as_store : (place : Option Place) → IsKnown f a key (appends more) place → IsKnown f a key (stores Flags.Replace (unwrap_or whole more)) place
  as_store place K = record { found = K.found; granted = refl }

  -- a turn before the change, and one after it
  before : (stage : Stage) (next : Next) (others : List HandPair) → is_changed stage ≡ false → unwrap_or whole more ≡ joined (map_of f a key) more → TurnMade f a b key (stores Flags.Replace (unwrap_or whole more)) stage next others → AppendMade f a b key more whole stage next others
  before stage next others early same T =
      let U = as_append f a b key more (unwrap_or whole more) stage next others (λ x y. same) T in
      record { made = U; has_joined = joined_after f a b key more whole next same (subst (λ x. MapBy x (is_changed_after next) f a b key (appends more)) early U.map) }

  beside : (stage : Stage) (next then : Next) (others : List HandPair) → next ≡ then → (is_changed stage ≡ false → is_changed_after then ≡ false) → JoinedAfter f b key more whole then → TurnMade f a b key (stores Flags.Replace (unwrap_or whole more)) stage next others → AppendMade f a b key more whole stage next others
  beside stage next then others led early has T = record {
    made = as_append f a b key more (unwrap_or whole more) stage next others (λ x y. absurd (never_true (sym (early x) ∙ ap is_changed_after (sym led) ∙ y))) T;
    has_joined = subst (JoinedAfter f b key more whole) (sym led) has;
  }

  -- all others
  pub store_appended : (stage : Stage) (next : Next) → (stage ≡ Stage.Chained → ⊥) → StoreOrder stage next → Makes f a b key (stores Flags.Replace (unwrap_or whole more)) stage next → AppendMakes f a b key more whole whole stage next
  store_appended Stage.Begun next never order made others A K J = beside Stage.Begun next (Next.Step Stage.Chained) others order (λ x. refl) tt (made others A tt)
  store_appended Stage.Chained next never order made others A K J = absurd (never refl)
  store_appended (Stage.Looked found) next never order made others A K J = before (Stage.Looked found) next others refl J (made others A (as_store found K))
  store_appended (Stage.Listed found) next never order made others A K J = before (Stage.Listed found) next others refl J (made others A (as_store found K))
  store_appended (Stage.Taken found hand) next never order made others A K J = before (Stage.Taken found hand) next others refl J (made others A (as_store found K))
  store_appended (Stage.Changed hand) next never order made others A K J = beside (Stage.Changed hand) next (Next.Step Stage.Ending) others order (λ x. absurd (never_true (sym x))) tt (made others A tt)
  store_appended (Stage.Wiping locked) next never order made others A K J = elim order [ ]
  store_appended Stage.Ending next never order made others A K J = beside Stage.Ending next (Next.Done Reply.Ok) others order (λ x. absurd (never_true (sym x))) tt (made others A tt)

-- an append goes on rightly
starved_rightly : (a b : List ℕ) (n : ℕ) (place : Option Place) → UpdatesRightly a b n place (Next.Done Reply.Memory)
starved_rightly a b n None = tt
starved_rightly a b n (Some place) = tt

module _ (f : Form) (a b key more : List ℕ) (limit : ℕ) (stood_on : List ℕ) where
  pub look_rightly : (was whole : Option (List ℕ)) (next : Next) → Finds f a key (λ place. UpdatesRightly a b (length (unwrap_or whole more)) place next)
      → ((hands : List HandPair) → AcceptWith f a hands → (next ≡ Next.Done Reply.Memory) ⊎ (unwrap_or whole more ≡ joined (map_of f a key) more)) → AppendsRightly f a b key more was limit stood_on Stage.Chained next
  look_rightly was whole next finds same J others A =
      let F = finds others A in (
        F.0,
        F.1,
        elim (same others A) [
          | inl starved ↦ subst (λ x. UpdatesRightly a b (length (joined (map_of f a key) more)) F.0 x) (sym starved) (starved_rightly a b _ F.0)
          | inr is ↦ subst (λ v. UpdatesRightly a b (length v) F.0 next) is F.2
        ],
      )

  pub store_rightly : (whole : Option (List ℕ)) (stage : Stage) (next : Next) → (stage ≡ Stage.Chained → ⊥)
      → StoresRightly f a b key (length (unwrap_or whole more)) (rec_len_for (length key) (length (unwrap_or whole more))) limit stood_on stage next → AppendsRightly f a b key more whole limit stood_on stage next
  store_rightly whole Stage.Begun next never R J = R
  store_rightly whole Stage.Chained next never R J = absurd (never refl)
  store_rightly whole (Stage.Looked found) next never R J = R
  store_rightly whole (Stage.Listed found) next never R J = subst (λ v. StoresRightly f a b key (length v) (rec_len_for (length key) (length v)) limit stood_on (Stage.Listed found) next) J R
  store_rightly whole (Stage.Taken found hand) next never R J = R
  store_rightly whole (Stage.Changed hand) next never R J = R
  store_rightly whole (Stage.Wiping locked) next never R J = R
  store_rightly whole Stage.Ending next never R J = R
