use Rattle.shared_registry.proofs.value.RegistryValue.rename.Goals as goal

pub returns : goal.returns
returns g c = rw (← c.self.view_is) c.rename-answer.ensures
