-- What is left of the files of a backup, one after the other.
use Rattle.std.proofs.Common.{◌≡◌, ◌⊎◌, ℕ, false, List, [], ◌∷◌, Option, refl, sym, ◌∙◌, ap, subst, inl, inr, arith}
use Rattle.std.specs.Prelude.{Bool}
use Rattle.tdb_disk.specs.Count.{Rose}
use Rattle.tdb_disk.specs.History.{History}
use Rattle.tdb_answer.specs.declared.ending.Ending.{Ending}
use Rattle.tdb_answer.specs.declared.ending.Ending.TheVariants.{Replied, Refused, Missing, There, Usage, DeviceFault, InputFault, Malformed, NoMemory, LogFault}
use Rattle.tdb_answer.specs.declared.ending.Reply.TheVariants as Reply
use Rattle.tdb_open.specs.declared.halt.Refusal.{Refusal}
use Rattle.tdb_open.specs.declared.halt.Refusal.TheVariants.{TooLong, Header, Corrupt, NeedsRecovery}
use Rattle.tdb_cmdline.specs.CopyNames.{copy_name, new_name, made_name, IsNameOf, IsNameAmong, IsForCopyAmong, NamesDiffer}
use Rattle.tdb_answer.specs.Commands.Backup.{Copied, CopiedAll, Stopped, AllStay, StoppedAt, IsLeftOf, WasOpened, EndsAt, BackupEnds, BackupCause, BackupStops, EndsBackup, BackedUpOne, BackedUp}
use Rattle.tdb_answer.specs.Ending.{status_of}
use Rattle.tdb_open.specs.Opening.{HeldOrUndone, HeldBroken}
use Rattle.tdb_answer.proofs.Held.{same_or_other, held_undone}

abbrev pub Held : Type 0
Held = List ℕ → Option History

-- of the endings of a backup one alone has status 0
pub refusal_some : (r : Refusal) → status_of (Refused r) ≡ 0 → ⊥
refusal_some (TooLong len) is = absurd (omega (arith, is))
refusal_some (Header fault) is = absurd (omega (arith, is))
refusal_some (Corrupt what at) is = absurd (omega (arith, is))
refusal_some NeedsRecovery is = absurd (omega (arith, is))

pub backup_zero : (e : Ending) → EndsBackup e → status_of e ≡ 0 → e ≡ Replied Reply.Copied
backup_zero (Replied reply) (inl is) zero = ap Replied is
backup_zero (Replied reply) (inr full) zero = absurd (let six : status_of (Replied reply) ≡ 6 = ap (λ r. status_of (Replied r)) full.2 in omega (arith, six, zero))
backup_zero (Refused r) known zero = absurd (refusal_some r zero)
backup_zero (Missing name) known zero = absurd (omega (arith, zero))
backup_zero (There name) known zero = absurd (omega (arith, zero))
backup_zero DeviceFault known zero = absurd (omega (arith, zero))
backup_zero NoMemory known zero = absurd (omega (arith, zero))
backup_zero LogFault known zero = absurd (omega (arith, zero))
backup_zero Usage known zero = absurd known
backup_zero InputFault known zero = absurd known
backup_zero (Malformed at) known zero = absurd known

-- a name is one of these, or it isn't
name_or_other : (verify : Bool) (suffix file name : List ℕ) → IsNameOf verify suffix file name ⊎ (IsNameOf verify suffix file name → ⊥)
name_or_other verify suffix file name = elim (same_or_other name file) [
  | inl is ↦ inl (inl is)
  | inr own ↦
      elim (same_or_other name (copy_name suffix file)) [
        | inl is ↦ inl (inr (inl is))
        | inr copy ↦
            elim (same_or_other name (made_name verify suffix file)) [
              | inl is ↦ inl (inr (inr is))
              | inr new ↦ inr (λ one. elim one [ inl is ↦ own is | inr two ↦ elim two [ inl is ↦ copy is | inr is ↦ new is ] ])
            ]
      ]
]

pub among_or_other : (verify : Bool) (suffix : List ℕ) (files : List (List ℕ)) (name : List ℕ) → IsNameAmong verify suffix files name ⊎ (IsNameAmong verify suffix files name → ⊥)
among_or_other verify suffix [] name = inr (λ none. none)
among_or_other verify suffix (file ∷ files) name = elim (name_or_other verify suffix file name) [
  | inl is ↦ inl (inl is)
  | inr other ↦
      elim (among_or_other verify suffix files name) [
        | inl is ↦ inl (inr is)
        | inr rest ↦ inr (λ one. elim one [ inl is ↦ other is | inr is ↦ rest is ])
      ]
]

-- a file that was copied is as it was, or was undone
copied_kept : (file at_copy at_new : List ℕ) (old now : Held) → Copied file at_copy at_new old now → HeldOrUndone (old file) (now file)
copied_kept file at_copy at_new old now c = held_undone (old file) (now file) c.was c.is c.there c.stands c.undone

-- a name that is neither a file's own nor one for its copy is none of its names
not_own : (suffix file name : List ℕ) (files : List (List ℕ)) → (name ≡ file → ⊥) → (IsForCopyAmong suffix (file ∷ files) name → ⊥) → (IsNameAmong false suffix files name → ⊥) → IsNameAmong false suffix (file ∷ files) name → ⊥
not_own suffix file name files apart copy none (inl (inl is)) = apart is
not_own suffix file name files apart copy none (inl (inr is)) = copy (inl is)
not_own suffix file name files apart copy none (inr is) = none is

module _ (suffix : List ℕ) (old now : Held) where
  -- at each name but those for copies
  pub stopped_kept : (broken : Type 0) (why : List ℕ → Option History → Type 0) → (broken → ⊥) → (files : List (List ℕ)) → StoppedAt broken why suffix files old now → (name : List ℕ) → (IsForCopyAmong suffix files name → ⊥)
      → ((IsNameAmong false suffix files name → ⊥) → now name ≡ old name) → HeldOrUndone (old name) (now name)
  stopped_kept broken why never [] stopped name copy other = absurd stopped
  stopped_kept broken why never (file ∷ files) (inl both) name copy other = elim (same_or_other name file) [
    | inl here ↦ subst (λ n. HeldOrUndone (old n) (now n)) (sym here) (copied_kept file (copy_name suffix file) (new_name suffix file) old now both.0)
    | inr apart ↦ stopped_kept broken why never files both.1 name (λ among. copy (inr among)) (λ none. other (not_own suffix file name files apart copy none))
  ]
  stopped_kept broken why never (file ∷ files) (inr both) name copy other = elim (same_or_other name file) [
    | inl here ↦ subst (λ n. HeldOrUndone (old n) (now n)) (sym here) (elim both.0.kept [ inl kept ↦ kept | inr breaks ↦ absurd (never breaks.0) ])
    | inr apart ↦
        elim (among_or_other false suffix files name) [
          | inl among ↦ inl (both.1 name among)
          | inr none ↦ inl (other (not_own suffix file name files apart copy none))
        ]
  ]

  -- what a failed call leaves may be told in other words
  weaker : (A B : Type 0) → (A → B) → (file at_copy at_new : List ℕ) → Stopped A file at_copy at_new old now → Stopped B file at_copy at_new old now
  weaker A B more file at_copy at_new s = record {
    kept = elim s.kept [ inl kept ↦ inl kept | inr breaks ↦ inr (more breaks.0, breaks.1) ];
    copy = s.copy;
    left = elim s.left [ inl left ↦ inl left | inr breaks ↦ inr (more breaks) ];
  }

  pub stopped_weaker : (A B : Type 0) (V W : List ℕ → Option History → Type 0) → (A → B) → ((file : List ℕ) (held : Option History) → V file held → W file held) → (files : List (List ℕ)) → StoppedAt A V suffix files old now → StoppedAt B W suffix files old now
  stopped_weaker A B V W more why [] stopped = stopped
  stopped_weaker A B V W more why (file ∷ files) (inl both) = inl (both.0, stopped_weaker A B V W more why files both.1)
  stopped_weaker A B V W more why (file ∷ files) (inr both) = inr (weaker A B more file (copy_name suffix file) (new_name suffix file) both.0, both.1, why file (old file) both.2)

-- the names of a file that was copied stay as they are then
copied_later : (file at_copy at_new : List ℕ) (old mid now : Held) → now file ≡ mid file → now at_copy ≡ mid at_copy → now at_new ≡ mid at_new → Copied file at_copy at_new old mid → Copied file at_copy at_new old now
copied_later file at_copy at_new old mid now own copy new c = record {
  was = c.was;
  is = c.is;
  copy = c.copy;
  there = c.there;
  can_open = c.can_open;
  stands = own ∙ c.stands;
  undone = c.undone;
  copied = copy ∙ c.copied;
  copy_of = c.copy_of;
  gone = new ∙ c.gone;
}

-- nothing changed before at the names of the files that come then
module _ (suffix : List ℕ) (old mid now : Held) where
  pub all_copied_since : (files : List (List ℕ)) → AllStay false suffix files old mid → CopiedAll suffix files mid now → CopiedAll suffix files old now
  all_copied_since [] same copied = tt
  all_copied_since (file ∷ files) same copied =
      let c = copied.0 in (
        record {
          was = c.was;
          is = c.is;
          copy = c.copy;
          there = sym (same file (inl (inl refl))) ∙ c.there;
          can_open = c.can_open;
          stands = c.stands;
          undone = c.undone;
          copied = c.copied;
          copy_of = c.copy_of;
          gone = c.gone;
        },
        all_copied_since files (λ name among. same name (inr among)) copied.1,
      )

  stopped_since : (broken : Type 0) (file at_copy at_new : List ℕ) → mid file ≡ old file → mid at_copy ≡ old at_copy → mid at_new ≡ old at_new → Stopped broken file at_copy at_new mid now → Stopped broken file at_copy at_new old now
  stopped_since broken file at_copy at_new own copy new s = record {
    kept = subst (λ o. HeldOrUndone o (now file) ⊎ (broken × HeldBroken o (now file))) own s.kept;
    copy = s.copy ∙ copy;
    left = subst (λ o. IsLeftOf o (now at_new) ⊎ broken) new s.left;
  }

  pub all_stopped_since : (broken : Type 0) (why : List ℕ → Option History → Type 0) (files : List (List ℕ)) → AllStay false suffix files old mid → StoppedAt broken why suffix files mid now → StoppedAt broken why suffix files old now
  all_stopped_since broken why [] same stopped = stopped
  all_stopped_since broken why (file ∷ files) same (inl both) =
      let c = both.0 in
      inl (
        record {
          was = c.was;
          is = c.is;
          copy = c.copy;
          there = sym (same file (inl (inl refl))) ∙ c.there;
          can_open = c.can_open;
          stands = c.stands;
          undone = c.undone;
          copied = c.copied;
          copy_of = c.copy_of;
          gone = c.gone;
        },
        all_stopped_since broken why files (λ name among. same name (inr among)) both.1,
      )
  all_stopped_since broken why (file ∷ files) same (inr both) =
      inr (
        stopped_since broken file (copy_name suffix file) (new_name suffix file) (same file (inl (inl refl))) (same (copy_name suffix file) (inl (inr (inl refl)))) (same (new_name suffix file) (inl (inr (inr refl)))) both.0,
        λ name among. both.1 name among ∙ same name (inr among),
        subst (why file) (same file (inl (inl refl))) both.2,
      )

  pub ends_since : (files : List (List ℕ)) (e : Ending) → AllStay false suffix files old mid → BackupEnds files mid e → BackupEnds files old e
  ends_since [] e same ends = ends
  ends_since (file ∷ files) e same (inl at) = inl (subst (λ o. EndsAt file o e) (same file (inl (inl refl))) at)
  ends_since (file ∷ files) e same (inr both) = inr (subst WasOpened (same file (inl (inl refl))) both.0, ends_since files e (λ name among. same name (inr among)) both.1)

-- one file of a backup, and those behind it
module _ (suffix file : List ℕ) (files : List (List ℕ)) (differ : NamesDiffer false suffix (file ∷ files)) (old mid : Held) (before between : ℕ) (others : (name : List ℕ) → (IsNameOf false suffix file name → ⊥) → mid name ≡ old name) where
  rest_stays : AllStay false suffix files old mid
  rest_stays name among = others name (λ own. differ.0 name own among)

  -- it wasn't copied, so the others weren't looked at
  pub ended_there : (e : Ending) → EndsBackup e → (e ≡ Replied Reply.Copied → ⊥) → BackedUpOne file (copy_name suffix file) (new_name suffix file) old mid before between e → BackedUp suffix (file ∷ files) old mid before between e
  ended_there e known other one = record {
    cause = of one.cause;
    leaves = record {
      known = known;
      done = λ is. absurd (other is);
      stopped = λ _. inr (one.stopped other, rest_stays, stops one.cause);
    };
  }
    where
      of : BackupCause (file ∷ []) old before between e → BackupCause (file ∷ files) old before between e
      of (inl (inl at)) = inl (inl at)
      of (inl (inr both)) = absurd (other both.1)
      of (inr fault) = inr fault

      stops : BackupCause (file ∷ []) old before between e → BackupStops e file (old file)
      stops (inl (inl at)) = inl at
      stops (inl (inr both)) = absurd (other both.1)
      stops (inr (inl fault)) = inr (inl fault.0)
      stops (inr (inr wanting)) = inr (inr wanting)

  -- it was copied, and then the others were backed up
  module _ (counted : between ≡ before) (one : BackedUpOne file (copy_name suffix file) (new_name suffix file) old mid before between (Replied Reply.Copied)) where
    pub went_on : (now : Held) (after : ℕ) (e : Ending) → BackedUp suffix files mid now between after e → ((name : List ℕ) → (IsNameAmong false suffix files name → ⊥) → now name ≡ mid name)
        → BackedUp suffix (file ∷ files) old now before after e
    went_on now after e rest later = record {
      cause = cause rest.cause;
      leaves = record {
        known = rest.leaves.known;
        done = λ is. (first, all_copied_since suffix old mid now files rest_stays (rest.leaves.done is));
        stopped = λ other. inl (first, all_stopped_since suffix old mid now (e ≡ DeviceFault) (BackupStops e) files rest_stays (rest.leaves.stopped other));
      };
    }
      where
        own : Copied file (copy_name suffix file) (new_name suffix file) old mid
        own = one.copied refl

        at_own : (name : List ℕ) → IsNameOf false suffix file name → now name ≡ mid name
        at_own name is = later name (λ among. differ.0 name is among)

        first : Copied file (copy_name suffix file) (new_name suffix file) old now
        first =
            copied_later file (copy_name suffix file) (new_name suffix file) old mid now (at_own file (inl refl)) (at_own (copy_name suffix file) (inr (inl refl))) (at_own (new_name suffix file) (inr (inr refl))) own

        cause : BackupCause files mid between after e → BackupCause (file ∷ files) old before after e
        cause (inl ends) = inl (inr (record { was = own.was; there = own.there; can_open = own.can_open }, ends_since suffix old mid now files e rest_stays ends))
        cause (inr (inl fault)) = inr (inl (fault.0, subst (λ n. Rose n after) counted fault.1))
        cause (inr (inr wanting)) = inr (inr wanting)

-- nothing is left to be backed up
pub all_done : (suffix : List ℕ) (held : Held) (count : ℕ) → BackedUp suffix [] held held count count (Replied Reply.Copied)
all_done suffix held count = record {
  cause = inl refl;
  leaves = record { known = inl refl; done = λ _. tt; stopped = λ other. absurd (other refl) };
}

-- from what is left of the files that are still to be backed up follows what is left of all
abbrev pub Carries : List ℕ → List (List ℕ) → Held → ℕ → List (List ℕ) → Held → ℕ → Type 0
Carries suffix all old before rest mid between =
    (now : Held) (after : ℕ) (e : Ending) → BackedUp suffix rest mid now between after e → ((name : List ℕ) → (IsNameAmong false suffix rest name → ⊥) → now name ≡ mid name) → BackedUp suffix all old now before after e

-- one more file was backed up, or ended the backup
module _ (suffix : List ℕ) (all : List (List ℕ)) (start : Held) (first : ℕ) (file : List ℕ) (files : List (List ℕ)) (old mid : Held) (before between : ℕ) (differ : NamesDiffer false suffix (file ∷ files)) (carries : Carries suffix all start first (file ∷ files) old before)
    (others : (name : List ℕ) → (IsNameOf false suffix file name → ⊥) → mid name ≡ old name) where
  pub carries_on : between ≡ before → BackedUpOne file (copy_name suffix file) (new_name suffix file) old mid before between (Replied Reply.Copied) → Carries suffix all start first files mid between
  carries_on counted one now after e rest later =
      carries now after e (went_on suffix file files differ old mid before between others counted one now after e rest later) (λ name none. later name (λ among. none (inr among)) ∙ others name (λ own. none (inl own)))

  pub carries_end : (e : Ending) → EndsBackup e → (e ≡ Replied Reply.Copied → ⊥) → BackedUpOne file (copy_name suffix file) (new_name suffix file) old mid before between e → BackedUp suffix all start mid first between e
  carries_end e known other one = carries mid between e (ended_there suffix file files differ old mid before between others e known other one) (λ name none. others name (λ own. none (inl own)))
