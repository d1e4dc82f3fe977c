-- Parts of a session that lead from one moment to another, one after the other.
use Rattle.std.proofs.Common.{List, [], ◌++◌, Option, None, Some, refl}
use Rattle.std.specs.Prelude.{Bool}
use Rattle.tdb_tool.specs.declared.fault.SessionFault.{SessionFault}
use Rattle.tdb_tool.specs.declared.fault.SessionFault.TheVariants as F
use Rattle.tdb_tool.specs.Parts.{Part, AllDone, AllCame}
use Rattle.tdb_world.specs.Courses.Scene.{Scene}
use Rattle.tdb_tool.specs.Serving.{IsUnspent, Ran}
use Rattle.tdb_tool.proofs.Coming.{led_nowhere, led_input, led_memory, led_on}
use Rattle.tdb_tool.proofs.PartLemmas.{all_join, all_came, came_after, all_course}

module _ (disk_tells told : Bool) where
  -- no part was done
  pub ran_none : (start : Scene) → IsUnspent start → Ran disk_tells told start start [] None
  ran_none start unspent = led_nowhere disk_tells told (AllDone []) (AllCame []) start (λ f old. (refl, refl, refl)) unspent

  -- parts were done, and then the input failed, or memory was wanting
  pub ran_input : (start new : Scene) (parts : List Part) → Ran disk_tells told start new parts None → Ran disk_tells told start new parts (Some F.Input)
  ran_input start new parts ran = led_input disk_tells told (AllDone parts) (AllCame parts) start new ran

  pub ran_memory : (start new : Scene) (parts : List Part) → Ran disk_tells told start new parts None → Ran disk_tells told start new parts (Some F.Memory)
  ran_memory start new parts ran = led_memory disk_tells told (AllDone parts) (AllCame parts) (λ f old now lines text done. all_came f parts old now lines text done) start new ran

  -- parts, and then others
  pub ran_on : (start mid new : Scene) (parts others : List Part) → Ran disk_tells told start mid parts None → (answer : Option SessionFault) → Ran disk_tells told mid new others answer → Ran disk_tells told start new (parts ++ others) answer
  ran_on start mid new parts others first answer next =
      led_on disk_tells told (AllDone parts) (AllCame parts) (AllDone others) (AllCame others) (AllDone (parts ++ others)) (AllCame (parts ++ others))
      (λ f old at lines text A. all_course f parts old at lines text A) (λ f old at now front rest text more A B. all_join f parts others old at now front rest text more A B)
      (λ f old at now front rest text more A C. came_after f parts others old at now front rest text more A C) start mid new first answer next
