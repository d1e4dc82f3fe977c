-- An opener that is bare has no cursor; and where it ends, the state is as before without it.
use Rattle.std.proofs.Common.{◌≡◌, ◌≢◌, ℕ, ◌+◌, List, set, slice_get, Option, Some, None, sym, ◌∙◌, ap, subst, inl, inr, arith}
use Rattle.std.proofs.lemmas.Bool.{cases_eq}
use Rattle.tdb_space.specs.Form.{form_in}
use Rattle.tdb_locks.specs.LockTable.{held}
use Rattle.tdb_law.specs.Openers.{View, closed}
use Rattle.tdb_law.specs.Lines.{MayDie}
use Rattle.tdb_law.specs.World.{State}
use Rattle.tdb_law.proofs.Walking.{put_here, put_else}
use Rattle.tdb_law.specs.OneAside.Sides.{but_at}
use Rattle.tdb_law.proofs.OneAside.Parted.{put_back}
use Rattle.tdb_commands.specs.InLaw.{law_opener}
use Rattle.tdb_steps.specs.Holdings.{strength, table_of}
use Rattle.tdb_walk.specs.declared.standing.Standing.TheVariants.{Past}
use Rattle.tdb_walk.specs.declared.stage.Stage.TheVariants.{Rested}
use Rattle.tdb_walk.specs.Again.{RestsAt}
use Rattle.tdb_openers.specs.declared.opener.Opener.{Opener}
use Rattle.tdb_openers.specs.Aside.{IsBare}
use Rattle.tdb_openers.specs.Died.{died, HasDied, CanDie, without_opener}
use Rattle.tdb_openers.specs.Laws.{IsPut}
use Rattle.tdb_openers.specs.Openers.{no_walk, own_of, own_at, spots_of, task_at, law_task}
use Rattle.tdb_openers.specs.States.{view_under, view_at}
use Rattle.tdb_openers.specs.Worlds.{World, state_in, Stands, IsNumber}
use Rattle.tdb_openers.proofs.ExplicitLocks.Aside.{rests}
use Rattle.tdb_openers.proofs.Joining.Putting.{by_number}
use Rattle.tdb_openers.proofs.Joining.Replacing.{same_at, same_entries, state_replaced}
use Rattle.tdb_openers.proofs.Walks.Rests.{rests_past}

-- it may die
pub bare_can_die : {w : World} {who : ℕ} {x : Opener} → IsNumber w who x → IsBare x → CanDie w who x
bare_can_die N B = record { number = N; live = B.live; may_die = subst MayDie (sym (ap law_task B.idle)) tt }

module _ (w : World) (who : ℕ) (x : Opener) (N : IsNumber w who x) (B : IsBare x) where
  abbrev l : ℕ
  l = law_opener who

  pub found : slice_get w.openers l ≡ Some x
  found = subst (λ p. slice_get w.openers p ≡ Some x) (sym (by_number who N.place N.counted)) N.there

  pub named : l + 1 ≡ who
  named = let number = N.counted in omega (arith, number)

  module _ (any : List ℕ) (size : ℕ) (W : Stands w any size) where
    at_rest : RestsAt (form_in w.header) x.walk.shown x.walk.cursor.place x.walk.cursor.stage
    at_rest = rests (form_in w.header) w.options w.openers w.table any size l x W found B

    past : x.walk.cursor.place ≡ Past
    past = rests_past (form_in w.header) x.walk.shown x.walk.cursor.place x.walk.cursor.stage at_rest B.no_cursor

    rested : x.walk.cursor.stage ≡ Rested
    rested = (subst (λ p. RestsAt (form_in w.header) x.walk.shown p x.walk.cursor.stage) past at_rest).1

    -- it has no cursor
    pub bare_walk : x.walk ≡ no_walk
    bare_walk = λ i. record { cursor = record { place = past i; stage = rested i }; shown = B.no_cursor i }

    module _ (v : World) (D : HasDied w who v) (img : List ℕ) where
      abbrev p : State
      p = state_in w img

      abbrev ended : World
      ended = record w { openers = v.openers; table = v.table }

      abbrev later : State
      later = state_in ended img

      put : IsPut w.openers l died v.openers
      put = subst (λ o. IsPut w.openers o died v.openers) (sym (by_number who D.place D.counted)) D.put

      walks : died.walk ≡ x.walk
      walks = sym bare_walk

      -- what the file adds to cursors
      abbrev views : List ℕ → ℕ → Option Opener → View
      views entries o z = view_at (form_in w.header) w.options img (set entries o 0) z

      no_view_before : (entries : List ℕ) (o : ℕ) → views entries o (Some died) ≡ views entries o (Some x)
      no_view_before entries o = sym (ap (λ u. view_under (form_in w.header) w.options img (set entries o 0) x (law_task u)) B.idle)

      view_there : (o : ℕ) → later.view o ≡ p.view o
      view_there o = ap (λ entries. views entries o (slice_get v.openers o)) (same_entries w.openers v.openers l x died found put walks)
          ∙ same_at w.openers v.openers l x died found put (views (spots_of w.openers) o) (no_view_before (spots_of w.openers) o) o

      -- what openers hold
      lost : (b : ℕ) → table_of v.table (l + 1) b ≡ 0
      lost b = ap strength (subst (λ o. held v.table o b ≡ None) (sym named) (D.lost b))

      kept : (o b : ℕ) → o ≢ l → table_of v.table (o + 1) b ≡ table_of w.table (o + 1) b
      kept o b ne = ap strength (D.others (o + 1) b (λ e. ne (let number = N.counted in omega (arith, e, number))))

      table_there : (o b : ℕ) → later.table o b ≡ but_at l (λ c. 0) p.table o b
      table_there o b = elim (cases_eq o l) [
        | inl is ↦ subst (λ u. table_of v.table (u + 1) b ≡ 0) (sym is) (lost b) ∙ sym (ap (λ g. g b) (put_here p.table l (λ c. 0) o is))
        | inr ne ↦ kept o b ne ∙ sym (ap (λ g. g b) (put_else p.table l (λ c. 0) o ne))
      ]

      is_closed : own_of w.options died ≡ closed (p.own l)
      is_closed = sym (ap (λ z. closed (own_at w.options z)) found)

      ended_state : later ≡ without_opener p l
      ended_state = ap (λ views. record later { view = views }) (λ i o. view_there o i)
          ∙ (state_replaced w.openers v.openers l x died found put walks (form_in w.header) w.options v.table img p.view
          ∙ (λ i. record p { task = put_back l None p.task (ap task_at found ∙ ap law_task B.idle) i; own = but_at l (is_closed i) p.own; table = λ o b. table_there o b i }))

      pub state_closed : state_in v img ≡ without_opener p l
      state_closed = ap (λ (z : World). state_in (record z { openers = v.openers; table = v.table }) img) D.rest ∙ ended_state
