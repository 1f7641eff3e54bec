-- A registry's whole life: runs of its server, each on the image that the run before left.
use Rattle.std.specs.Prelude.{◌≡◌, ℕ, List, [], ◌∷◌, Option, Some, None, map}
use Rattle.disk_model.specs.declared.disk.Disk.{Ghosts}
use Rattle.disk_model.specs.Past.{MayLeave, MayHaveLeft}
use Rattle.log_journal.specs.File.{Holds}
use Rattle.registry_core.specs.declared.event.Event.{Event}
use Rattle.registry_core.specs.Events.{IsRegistry}
use Rattle.registry_core.specs.Replies.{RegistryCall, RegistryReply, event_by}
use Rattle.registry_core.specs.Texts.{registry_payloads}
use Rattle.log_registry.specs.Changes.{Called}
use Rattle.log_registry.specs.State.{StateView, events_in}
use Rattle.turn_cell.specs.Turns.{IsIn, AllOf}
use Rattle.turn_cell.specs.Sights.{Made, AreAll}
use Rattle.turn_cell.specs.Knowing.{pass_number}
use Rattle.turn_cell.specs.Sharing.{IsNewPassOf, IsClosedOf}
use Rattle.shared_registry.specs.History.{RegistrySight, shared_registry}
use Rattle.registry_deployment.specs.Calls.{HandsInTexts, SeenOnRegistry, AreSeenOnRegistry}
use Rattle.registry_deployment.specs.Calls.{IsAmidOnRegistry}

-- what a pass did in a run of the server: its calls that were answered, the one that it was in at
-- the stop, and what it showed then
pub record RegistryPassRun : Type 0 where
  pub calls : List SeenOnRegistry
  pub in_call : Option RegistryCall
  pub at_stop : RegistrySight

-- an image holds a registry of so many slots and of these events
pub record IsRegistryIn (image : List ℕ) (slots : ℕ) (events : List Event) : Type 0 where
  pub holds : Holds image 0 (registry_payloads slots events)
  pub registry : IsRegistry slots events

-- a change that was under way when the machine stopped: of which pass and of which event, and what
-- it would have come to
pub record UnansweredChange (D : Type 0) : Type 0 where
  pub pass : RegistryPassRun
  pub event : Event
  pub reply : RegistryReply
  pub left : StateView D

-- One run of the server: the registry as it was shared, what its passes did, the registry that lay
-- in the turn at the stop or that the change under way had found there, and the image that was
-- left.
pub record RegistryRun (D : Type 0) : Type 0 where
  pub made : Made (StateView D)
  pub passes : List RegistryPassRun
  pub registry : StateView D
  pub under_way : Option (UnansweredChange D)
  pub image : List ℕ

-- what its passes showed at the stop
abbrev pub registry_sights : {D : Type 0} → RegistryRun D → List RegistrySight
registry_sights run = map (λ pass. pass.at_stop) run.passes

module _ {D : Type 0} (disks : Ghosts D) where
  -- the pass was given by the sharing, made these calls, and may have been in one more
  pub record HasCalledOnRegistry (made : Made (StateView D))
      (pass : RegistryPassRun) : Type 0 where
    pub number : ℕ
    pub given : RegistrySight
    pub is_given : IsNewPassOf (shared_registry disks) made number given
    pub behind : RegistrySight
    pub calls : AreSeenOnRegistry disks made.origin given pass.calls behind
    pub amid : IsAmidOnRegistry behind pass.in_call pass.at_stop

  -- the change of this registry that the call of a pass is to make
  pub record IsChangeUnderWay (passes : List RegistryPassRun) (registry : StateView D)
      (change : UnansweredChange D) : Type 0 where
    pub of_pass : IsIn change.pass passes
    pub call : RegistryCall
    pub in_call : change.pass.in_call ≡ Some call
    pub texts : HandsInTexts call
    pub due : event_by registry.slots call (events_in registry) ≡ Some change.event
    pub called : Called disks registry change.left call (pass_number change.pass.at_stop)
        change.reply

  -- a stop between changes, or at any moment of the one that was under way
  abbrev pub LeavesRegistry :
      List RegistryPassRun → StateView D → Option (UnansweredChange D) → List ℕ → Type 0
  LeavesRegistry passes registry None image = MayLeave (disks.past registry.disk) image
  LeavesRegistry passes registry (Some change) image =
      IsChangeUnderWay passes registry change
      × MayHaveLeft (disks.past registry.disk) (disks.past change.left.disk) image

  -- A run on an image. What is said of its stop is what closing would have told then.
  pub record IsRegistryRun (image : List ℕ) (run : RegistryRun D) : Type 0 where
    pub opened : IsRegistryIn image run.made.origin.slots (events_in run.made.origin)
    pub settled : run.made.origin.doubt ≡ None
    pub called : AllOf (HasCalledOnRegistry run.made) run.passes
    pub all_there : AreAll run.made.seats (registry_sights run)
    pub at_stop :
        IsClosedOf (shared_registry disks) run.made (registry_sights run) run.registry
    pub leaves : LeavesRegistry run.passes run.registry run.under_way run.image

  -- runs one after another, from an image on
  abbrev pub AreRegistryRuns : List ℕ → List (RegistryRun D) → Type 0
  AreRegistryRuns image [] = Unit {0}
  AreRegistryRuns image (run ∷ more) = IsRegistryRun image run × AreRegistryRuns run.image more

-- what the last of them left
abbrev pub registry_left : {D : Type 0} → List ℕ → List (RegistryRun D) → List ℕ
registry_left image [] = image
registry_left image (run ∷ more) = registry_left run.image more
