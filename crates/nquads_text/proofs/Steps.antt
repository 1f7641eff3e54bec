-- What a chain of readings tells of its parts.
use Rattle.std.proofs.Common.{◌≡◌, ℕ, List, Bool, true, false, cond, Result, Ok, Err, refl, ap, ◌⊎◌, inl, inr}
use Rattle.nquads_text.specs.declared.fault.ReadFault.{ReadFault}
use Rattle.nquads_text.specs.declared.fault.ReadFault.TheVariants.{At, OutOfMemory}
use Rattle.nquads_text.specs.Fault.{Fails, TextFault, TextRead, ◌>>=◌}

-- the value of a step that did not fail
pub bind_ok : {A B : Type 0} (r : Result A TextFault) (f : A → Result B TextFault) (y : B) → (r >>= f) ≡ Ok y → (x : A) × (r ≡ Ok x) × (f x ≡ Ok y)
bind_ok (Ok x) f y e = (x, refl, e)
bind_ok (Err d) f y e = absurd cc

-- the step that failed
pub bind_err : {A B : Type 0} (r : Result A TextFault) (f : A → Result B TextFault) (d : TextFault) → (r >>= f) ≡ Err d → (r ≡ Err d) ⊎ ((x : A) × (r ≡ Ok x) × (f x ≡ Err d))
bind_err (Ok x) f d e = inr (x, refl, e)
bind_err (Err g) f d e = let same : g ≡ d = cc in inl (ap (λ (h : TextFault). Err h) same)

-- what fails, fails whatever comes behind it
pub fails_then : {X Y : Type 0} (text : List ℕ) (e : ReadFault) (r : TextRead X) (f : X × List ℕ → TextRead Y) → Fails text e r → Fails text e (r >>= f)
fails_then text (At at kind) r f x = (rw x.0 refl, x.1)
fails_then text OutOfMemory r f x = tt

-- which way a test went
pub chosen : {A : Type 0} (b : Bool) (x y z : A) → cond b x y ≡ z → ((b ≡ true) × (x ≡ z)) ⊎ ((b ≡ false) × (y ≡ z))
chosen true x y z e = inl (refl, e)
chosen false x y z e = inr (refl, e)

abbrev done : {A : Type 0} → A → Result A TextFault
done x = Ok x

pub ok_is : {A : Type 0} (x y : A) → done x ≡ done y → x ≡ y
ok_is x y e = cc

pub not_both : {A : Type 0} (x : A) (d : TextFault) → done x ≡ Err d → ⊥
not_both x d e = absurd cc

pub not_ok : {A : Type 0} (x : A) (d : TextFault) → Err d ≡ done x → ⊥
not_ok x d e = absurd cc

abbrev failed : {A : Type 0} → TextFault → Result A TextFault
failed d = Err d

pub err_is : {A : Type 0} (d f : TextFault) → failed {A = A} d ≡ Err f → d ≡ f
err_is d f e = cc

pub cond_true : {A : Type 0} (b : Bool) (x y : A) → b ≡ true → cond b x y ≡ x
cond_true true x y e = refl
cond_true false x y e = absurd cc

pub cond_false : {A : Type 0} (b : Bool) (x y : A) → b ≡ false → cond b x y ≡ y
cond_false true x y e = absurd cc
cond_false false x y e = refl
