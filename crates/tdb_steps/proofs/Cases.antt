-- What a turn may lead to, case by case.
use Rattle.std.proofs.Common.{◌≡◌, ℕ, Option, refl}
use Rattle.tdb_space.specs.Extents.{HandPair}
use Rattle.tdb_chain.specs.declared.place.Place.{Place}
use Rattle.tdb_locks.specs.declared.turn.Reply.{Reply}
use Rattle.tdb_steps.specs.declared.stage.Stage.{Stage}
use Rattle.tdb_steps.specs.declared.stage.Next.{Next}
use Rattle.tdb_steps.specs.Order.{NotFull, LooksOn, TakesOn, LinksOn, UnlinksOn}

pub data LooksCase (next : Next) : Type 0 where
  look_on : (found : Option Place) → next ≡ Next.Step (Stage.Looked found) → LooksCase next
  look_ends : (r : Reply) → next ≡ Next.Done r → NotFull r → LooksCase next

pub data TakesCase (next : Next) : Type 0 where
  take_on : (found : Option Place) (hand : HandPair) → next ≡ Next.Step (Stage.Taken found hand) → TakesCase next
  take_full : (len need : ℕ) → next ≡ Next.Done (Reply.Full len need) → TakesCase next
  take_starves : next ≡ Next.Done Reply.Memory → TakesCase next

pub data LinksCase (next : Next) : Type 0 where
  link_over : (hand : HandPair) → next ≡ Next.Step (Stage.Changed hand) → LinksCase next
  link_ends : next ≡ Next.Step Stage.Ending → LinksCase next

pub data UnlinksCase (next : Next) : Type 0 where
  unlink_on : (hand : HandPair) → next ≡ Next.Step (Stage.Changed hand) → UnlinksCase next
  unlink_starves : next ≡ Next.Done Reply.Memory → UnlinksCase next

pub looks_case : (next : Next) → LooksOn next → LooksCase next
looks_case (Next.Step Stage.Begun) order = elim order [ ]
looks_case (Next.Step Stage.Chained) order = elim order [ ]
looks_case (Next.Step (Stage.Looked x)) order = look_on x refl
looks_case (Next.Step (Stage.Listed x)) order = elim order [ ]
looks_case (Next.Step (Stage.Taken x y)) order = elim order [ ]
looks_case (Next.Step (Stage.Changed x)) order = elim order [ ]
looks_case (Next.Step (Stage.Wiping x)) order = elim order [ ]
looks_case (Next.Step Stage.Ending) order = elim order [ ]
looks_case (Next.Done r) order = look_ends r refl order

pub takes_case : (next : Next) → TakesOn next → TakesCase next
takes_case (Next.Step Stage.Begun) order = elim order [ ]
takes_case (Next.Step Stage.Chained) order = elim order [ ]
takes_case (Next.Step (Stage.Looked x)) order = elim order [ ]
takes_case (Next.Step (Stage.Listed x)) order = elim order [ ]
takes_case (Next.Step (Stage.Taken x y)) order = take_on x y refl
takes_case (Next.Step (Stage.Changed x)) order = elim order [ ]
takes_case (Next.Step (Stage.Wiping x)) order = elim order [ ]
takes_case (Next.Step Stage.Ending) order = elim order [ ]
takes_case (Next.Done Reply.Ok) order = elim order [ ]
takes_case (Next.Done (Reply.Value v)) order = elim order [ ]
takes_case (Next.Done (Reply.Pair k v)) order = elim order [ ]
takes_case (Next.Done Reply.End) order = elim order [ ]
takes_case (Next.Done Reply.KeyMissing) order = elim order [ ]
takes_case (Next.Done Reply.KeyThere) order = elim order [ ]
takes_case (Next.Done (Reply.Busy o b)) order = elim order [ ]
takes_case (Next.Done Reply.ReadOnly) order = elim order [ ]
takes_case (Next.Done Reply.NoTransaction) order = elim order [ ]
takes_case (Next.Done Reply.InTransaction) order = elim order [ ]
takes_case (Next.Done Reply.Nesting) order = elim order [ ]
takes_case (Next.Done Reply.Doomed) order = elim order [ ]
takes_case (Next.Done (Reply.HeldLocks n)) order = elim order [ ]
takes_case (Next.Done Reply.NotLocked) order = elim order [ ]
takes_case (Next.Done (Reply.Full len need)) order = take_full len need refl
takes_case (Next.Done Reply.Memory) order = take_starves refl
takes_case (Next.Done Reply.Yes) order = elim order [ ]
takes_case (Next.Done Reply.No) order = elim order [ ]
takes_case (Next.Done (Reply.Number n)) order = elim order [ ]

pub links_case : (next : Next) → LinksOn next → LinksCase next
links_case (Next.Step Stage.Begun) order = elim order [ ]
links_case (Next.Step Stage.Chained) order = elim order [ ]
links_case (Next.Step (Stage.Looked x)) order = elim order [ ]
links_case (Next.Step (Stage.Listed x)) order = elim order [ ]
links_case (Next.Step (Stage.Taken x y)) order = elim order [ ]
links_case (Next.Step (Stage.Changed x)) order = link_over x refl
links_case (Next.Step (Stage.Wiping x)) order = elim order [ ]
links_case (Next.Step Stage.Ending) order = link_ends refl
links_case (Next.Done r) order = elim order [ ]

pub unlinks_case : (next : Next) → UnlinksOn next → UnlinksCase next
unlinks_case (Next.Step Stage.Begun) order = elim order [ ]
unlinks_case (Next.Step Stage.Chained) order = elim order [ ]
unlinks_case (Next.Step (Stage.Looked x)) order = elim order [ ]
unlinks_case (Next.Step (Stage.Listed x)) order = elim order [ ]
unlinks_case (Next.Step (Stage.Taken x y)) order = elim order [ ]
unlinks_case (Next.Step (Stage.Changed x)) order = unlink_on x refl
unlinks_case (Next.Step (Stage.Wiping x)) order = elim order [ ]
unlinks_case (Next.Step Stage.Ending) order = elim order [ ]
unlinks_case (Next.Done Reply.Ok) order = elim order [ ]
unlinks_case (Next.Done (Reply.Value v)) order = elim order [ ]
unlinks_case (Next.Done (Reply.Pair k v)) order = elim order [ ]
unlinks_case (Next.Done Reply.End) order = elim order [ ]
unlinks_case (Next.Done Reply.KeyMissing) order = elim order [ ]
unlinks_case (Next.Done Reply.KeyThere) order = elim order [ ]
unlinks_case (Next.Done (Reply.Busy o b)) order = elim order [ ]
unlinks_case (Next.Done Reply.ReadOnly) order = elim order [ ]
unlinks_case (Next.Done Reply.NoTransaction) order = elim order [ ]
unlinks_case (Next.Done Reply.InTransaction) order = elim order [ ]
unlinks_case (Next.Done Reply.Nesting) order = elim order [ ]
unlinks_case (Next.Done Reply.Doomed) order = elim order [ ]
unlinks_case (Next.Done (Reply.HeldLocks n)) order = elim order [ ]
unlinks_case (Next.Done Reply.NotLocked) order = elim order [ ]
unlinks_case (Next.Done (Reply.Full len need)) order = elim order [ ]
unlinks_case (Next.Done Reply.Memory) order = unlink_starves refl
unlinks_case (Next.Done Reply.Yes) order = elim order [ ]
unlinks_case (Next.Done Reply.No) order = elim order [ ]
unlinks_case (Next.Done (Reply.Number n)) order = elim order [ ]
