-- An opener in a list of openers, by its number.
use Rattle.std.proofs.Common.{◌≡◌, ◌≢◌, ℕ, zero, suc, ◌+◌, ◌-◌, ◌<◌, List, [], ◌∷◌, length, slice_get, slice_index_or, slice_set, None, Some, refl, sym, ◌∙◌, ap, subst, arith}
use Rattle.std.proofs.lemmas.List.{length-set, length-map}
use Rattle.std.proofs.Math.Seq.{map-set_same}
use Rattle.std.proofs.lemmas.Option.{get_or_from_slice_get, slice_get_within}
use Rattle.tdb_words.specs.declared.header.Header.{Header}
use Rattle.tdb_space.specs.Form.{form_in}
use Rattle.tdb_locks.specs.declared.piece.Piece.{Piece}
use Rattle.tdb_commands.specs.declared.command.Command.{Command}
use Rattle.tdb_commands.specs.InLaw.{law_opener, law_command}
use Rattle.tdb_commands.specs.declared.options.Options.{Options}
use Rattle.tdb_openers.specs.declared.opener.Opener.{Opener}
use Rattle.tdb_openers.specs.declared.job.Job.{Job}
use Rattle.tdb_walk.specs.declared.standing.Standing.{Standing}
use Rattle.tdb_walk.specs.declared.standing.Standing.TheVariants.{Before, On, Past}
use Rattle.tdb_walk.specs.Cursors.{spot_of}
use Rattle.tdb_walk.specs.Spots.{spot_number}
use Rattle.tdb_openers.specs.Openers.{own_of, spots_of, command_in, JobStands}
use Rattle.tdb_openers.specs.declared.job.Task.{Task}
use Rattle.tdb_openers.specs.ShutOut.{IsReplaced}
use Rattle.tdb_openers.specs.Worlds.{World, IsNumber, IsFree, IsBusy, IsAssigned}
use Rattle.tdb_openers.specs.Laws.{IsPut}

set_there : (xs : List Opener) (i : ℕ) (y : Opener) → i < length xs → slice_get (slice_set xs i y) i ≡ Some y
set_there [] i y low = absurd (omega (arith, low))
set_there (x ∷ xs) zero y low = refl
set_there (x ∷ xs) (suc i) y low = set_there xs i y (omega (arith, low))

set_else : (xs : List Opener) (i o : ℕ) (y : Opener) → o ≢ i → slice_get (slice_set xs i y) o ≡ slice_get xs o
set_else [] i o y ne = refl
set_else (x ∷ xs) zero zero y ne = absurd (ne refl)
set_else (x ∷ xs) zero (suc o) y ne = refl
set_else (x ∷ xs) (suc i) zero y ne = refl
set_else (x ∷ xs) (suc i) (suc o) y ne = set_else xs i o y (λ e. ne (ap suc e))

get_is : (xs : List Opener) (i : ℕ) (d : Opener) → i < length xs → slice_get xs i ≡ Some (slice_index_or xs i d)
get_is [] i d low = absurd (omega (arith, low))
get_is (x ∷ xs) zero d low = refl
get_is (x ∷ xs) (suc i) d low = get_is xs i d (omega (arith, low))

-- the number of the opener at a place, and the place by the number
pub by_number : (who place : ℕ) → who ≡ place + 1 → who - 1 ≡ place
by_number who place counted = omega (arith, counted)

-- the opener with a number is the one that stands there
pub numbered : (xs : List Opener) (who place : ℕ) (x d : Opener) → who ≡ place + 1 → slice_get xs place ≡ Some x → d ≡ slice_index_or xs (who - 1) d → d ≡ x
numbered xs who place x d counted there item = item ∙ (ap (λ i. slice_index_or xs i d) (by_number who place counted) ∙ get_or_from_slice_get xs place x d there)

-- where another one is put there, the others stay
pub put_numbered : (xs : List Opener) (who place : ℕ) (x y : Opener) → who ≡ place + 1 → slice_get xs place ≡ Some x → IsPut xs place y (slice_set xs (who - 1) y)
put_numbered xs who place x y counted there =
    subst (λ i. IsPut xs place y (slice_set xs i y)) (sym (by_number who place counted))
    (record { same_length = length-set xs place y; there = set_there xs place y (slice_get_within xs place x there); others = λ o ne. set_else xs place o y ne })

pub others_put : (xs : List Opener) (who place : ℕ) (x y : Opener) → who ≡ place + 1 → slice_get xs place ≡ Some x → (o : ℕ) → o ≢ who - 1 → slice_get (slice_set xs (who - 1) y) o ≡ slice_get xs o
others_put xs who place x y counted there o ne = (put_numbered xs who place x y counted there).others o (λ e. ne (e ∙ sym (by_number who place counted)))

-- a job is given to the opener with a number
pub assigned : (header : Header) (options : Options) (xs : List Opener) (table : List Piece) (who : ℕ) (c : Command) (size : ℕ) (x d : Opener) (job : Job)
    → IsFree (record { header = header; options = options; openers = xs; table = table }) who x → d ≡ slice_index_or xs (who - 1) d → command_in job ≡ law_command c
    → JobStands (form_in header) (own_of options d) job 0 size
    → IsAssigned (record { header = header; options = options; openers = xs; table = table }) who x c size
    (record { header = header; options = options; openers = slice_set xs (who - 1) (record d { task = Some (record { steps = 0; job = job }) }); table = table })
assigned header options xs table who c size x d job F item command stands =
    let same = numbered xs who F.number.place x d F.number.counted F.number.there item in
    record {
      task = record { steps = 0; job = job };
      command = command;
      steps = refl;
      stands = subst (λ z. JobStands (form_in header) (own_of options z) job 0 size) same stands;
      place = F.number.place;
      counted = F.number.counted;
      put = subst (λ z. IsPut xs F.number.place (record x { task = Some (record { steps = 0; job = job }) }) (slice_set xs (who - 1) (record z { task = Some (record { steps = 0; job = job }) }))) (sym same)
          (put_numbered xs who F.number.place x (record x { task = Some (record { steps = 0; job = job }) }) F.number.counted F.number.there);
      rest = refl;
    }

-- so it is given in a world that is seen as this one
pub seen_so : {v w new : World} {who size : ℕ} {c : Command} {x : Opener} → v ≡ w → (IsFree v who x → IsAssigned v who x c size new) → IsFree w who x → IsAssigned w who x c size new
seen_so {new = new} {who = who} {size = size} {c = c} {x = x} e given F = subst (λ z. IsAssigned z who x c size new) e (given (subst (λ z. IsFree z who x) (sym e) F))

-- the entries in the list of spots stay where another opener is put whose cursor stands on the same record, or on none
-- as before
pub spots_alike : (xs : List Opener) (i : ℕ) (d y : Opener) → d ≡ slice_index_or xs i d → spot_number y.walk.cursor.place ≡ spot_number d.walk.cursor.place → spots_of (slice_set xs i y) ≡ spots_of xs
spots_alike xs i d y item same = map-set_same (λ (z : Opener). spot_number z.walk.cursor.place) xs i y d (same ∙ ap (λ (z : Opener). spot_number z.walk.cursor.place) item)

pub spots_still : (xs : List Opener) (i : ℕ) (d y : Opener) → d ≡ slice_index_or xs i d → y.walk ≡ d.walk → spots_of (slice_set xs i y) ≡ spots_of xs
spots_still xs i d y item still = spots_alike xs i d y item (ap (λ w. spot_number w.cursor.place) still)

pub off_number : (at : Standing) → spot_of at ≡ None → spot_number at ≡ 0
off_number (On chain off) none = absurd (cc none)
off_number (Before chain) none = refl
off_number Past none = refl

-- who stands at the place of a number has it
pub has_number : (w : World) (who : ℕ) (d : Opener) → 0 < who → who - 1 < length w.openers → d ≡ slice_index_or w.openers (who - 1) d → IsNumber w who d
has_number w who d some low item = record { place = who - 1; counted = omega (arith, some); there = get_is w.openers (who - 1) d low ∙ ap Some (sym item) }

-- and the list of spots has an entry for it
pub has_spot : (xs : List Opener) (who place : ℕ) (x : Opener) → who ≡ place + 1 → slice_get xs place ≡ Some x → who - 1 < length (spots_of xs)
has_spot xs who place x counted there = let low = slice_get_within xs place x there in let same = length-map xs (λ (z : Opener). spot_number z.walk.cursor.place) in omega (arith, counted, low, same)

-- where an opener is replaced nothing else has changed
pub replaced_rest : {old new : World} {who : ℕ} {y : Opener} → IsReplaced old who y new → record old { openers = new.openers } ≡ new
replaced_rest {new = new} R = sym (ap (λ (z : World). record z { openers = new.openers }) R.rest)

-- the opener with a number is replaced where another one is put there, in a world that is seen as another
module _ (v w : World) (e : v ≡ w) (who : ℕ) (x d : Opener) (N : IsNumber w who x) (item : d ≡ slice_index_or v.openers (who - 1) d) where
  there : slice_get v.openers N.place ≡ Some x
  there = ap (λ (z : World). slice_get z.openers N.place) e ∙ N.there

  pub is_numbered : d ≡ x
  is_numbered = numbered v.openers who N.place x d N.counted there item

  pub replaced : (y z : Opener) → z ≡ y → IsReplaced w who y (record v { openers = slice_set v.openers (who - 1) z })
  replaced y z is = subst (λ u. IsReplaced u who y (record v { openers = slice_set v.openers (who - 1) z })) e (record {
    put = subst (λ u. IsPut v.openers (law_opener who) u (slice_set v.openers (who - 1) z)) is
        (subst (λ p. IsPut v.openers p z (slice_set v.openers (who - 1) z)) (sym (by_number who N.place N.counted)) (put_numbered v.openers who N.place x z N.counted there));
    rest = refl;
  })

  -- and its command is the one that stands there
  pub busy_there : (u : Task) → d.task ≡ Some u → IsBusy w who x u
  busy_there u busy = record { number = N; busy = ap (λ (z : Opener). z.task) (sym is_numbered) ∙ busy }
