-- Readings that are exact: they give what a relation has, and fail as another one says, and nothing else.
use Rattle.std.proofs.Common.{◌≡◌, Bool, true, false, cond, Result, Ok, Err, refl, sym, ap, subst, ◌∙◌, ◌⊎◌, inl, inr, ⊎_elim}
use Rattle.std.proofs.lemmas.Bool.{false≢true}
use Rattle.nquads_text.specs.Fault.{TextFault}
use Rattle.patch_rows.specs.Fault.{Fault, ◌>>=◌, in_row, as_row_fault}

true≢false : true ≡ false → ⊥
true≢false e = false≢true (sym e)

abbrev done : {X : Type 0} → X → Result X Fault
done x = Ok x

abbrev failed : {X : Type 0} → Fault → Result X Fault
failed f = Err f

pub ok_is : {X : Type 0} (x y : X) → done x ≡ Ok y → x ≡ y
ok_is x y e = cc

pub err_is : (X : Type 0) (f g : Fault) → failed {X = X} f ≡ Err g → f ≡ g
err_is X f g e = cc

pub ok_no_err : {X : Type 0} (x : X) (f : Fault) → done x ≡ Err f → ⊥
ok_no_err x f e = absurd cc

pub err_no_ok : {X : Type 0} (x : X) (f : Fault) → failed f ≡ Ok x → ⊥
err_no_ok x f e = absurd cc

pub record Exact {X : Type 0} (r : Result X Fault) (P : X → Type 0) (F : Fault → Type 0) : Type 0 where
  pub found : (x : X) → r ≡ Ok x → P x
  pub again : (x : X) → P x → r ≡ Ok x
  pub fault : (f : Fault) → r ≡ Err f → F f
  pub only : (f : Fault) → F f → r ≡ Err f

-- a value
pub exact_ok : {X : Type 0} (a : X) → Exact (Ok a) (λ x. x ≡ a) (λ f. ⊥)
exact_ok a = record {
  found = λ x e. sym (ok_is a x e);
  again = λ x is. ap (λ (y : _). Ok y) (sym is);
  fault = λ f e. ok_no_err a f e;
  only = λ f none. absurd none;
}

-- a fault
pub exact_err : (X : Type 0) (g : Fault) → Exact {X = X} (Err g) (λ x. ⊥) (λ f. f ≡ g)
exact_err X g = record {
  found = λ x e. err_no_ok x g e;
  again = λ x none. absurd none;
  fault = λ f e. sym (err_is X g f e);
  only = λ f is. ap (λ (h : Fault). Err h) (sym is);
}

-- the same reading by other relations
pub exact_as : {X : Type 0} (r : Result X Fault) (P Q : X → Type 0) (F G : Fault → Type 0) → Exact r P F → ((x : X) → P x → Q x) → ((x : X) → Q x → P x)
    → ((f : Fault) → F f → G f) → ((f : Fault) → G f → F f) → Exact r Q G
exact_as r P Q F G e to back fault_to fault_back = record {
  found = λ x is. to x (e.found x is);
  again = λ x is. e.again x (back x is);
  fault = λ f is. fault_to f (e.fault f is);
  only = λ f is. e.only f (fault_back f is);
}

-- the same relations of an equal reading
pub exact_of : {X : Type 0} (r s : Result X Fault) (P : X → Type 0) (F : Fault → Type 0) → r ≡ s → Exact s P F → Exact r P F
exact_of r s P F same e = record {
  found = λ x is. e.found x (sym same ∙ is);
  again = λ x is. same ∙ e.again x is;
  fault = λ f is. e.fault f (sym same ∙ is);
  only = λ f is. same ∙ e.only f is;
}

-- one reading behind another
module _ {X Y : Type 0} (s : X → Result Y Fault) (P : X → Type 0) (F : Fault → Type 0) (Q : X → Y → Type 0) (G : X → Fault → Type 0) where
  abbrev pub Then : Y → Type 0
  Then y = (x : X) × P x × Q x y

  abbrev pub ThenFault : Fault → Type 0
  ThenFault f = F f ⊎ ((x : X) × P x × G x f)

  behind_ok : (a : X) (r : Result X Fault) → r ≡ Ok a → Exact r P F → Exact (s a) (Q a) (G a) → Exact (s a) Then ThenFault
  behind_ok a r is front back = record {
    found = λ y e. (a, front.found a is, back.found y e);
    again = λ y t. let same : t.0 ≡ a = ok_is t.0 a (sym (front.again t.0 t.1) ∙ is) in back.again y (subst (λ (x : X). Q x y) same t.2);
    fault = λ f e. inr (a, front.found a is, back.fault f e);
    only = λ f t.
        ⊎_elim
        (λ bad. absurd (ok_no_err a f (sym is ∙ front.only f bad)))
        (λ later. let same : later.0 ≡ a = ok_is later.0 a (sym (front.again later.0 later.1) ∙ is) in back.only f (subst (λ (x : X). G x f) same later.2))
        t;
  }

  behind_err : (g : Fault) (r : Result X Fault) → r ≡ Err g → Exact r P F → Exact {X = Y} (Err g) Then ThenFault
  behind_err g r is front = record {
    found = λ y e. absurd (err_no_ok y g e);
    again = λ y t. absurd (err_no_ok t.0 g (sym is ∙ front.again t.0 t.1));
    fault = λ f e. inl (front.fault f (is ∙ ap (λ (h : Fault). Err h) (err_is Y g f e)));
    only = λ f t.
        ⊎_elim
        (λ bad. ap (λ (h : Fault). Err h) (err_is X g f (sym is ∙ front.only f bad)))
        (λ later. absurd (err_no_ok later.0 g (sym is ∙ front.again later.0 later.1)))
        t;
  }

  pub exact_then : (r : Result X Fault) → Exact r P F → ((x : X) → Exact (s x) (Q x) (G x)) → Exact (r >>= s) Then ThenFault
  exact_then (Ok a) front back = behind_ok a (Ok a) refl front (back a)
  exact_then (Err g) front back = behind_err g (Err g) refl front

-- one reading or another, by a test
module _ {X : Type 0} (r s : Result X Fault) (P Q : X → Type 0) (F G : Fault → Type 0) where
  abbrev pub Either : Bool → X → Type 0
  Either b x = ((b ≡ true) × P x) ⊎ ((b ≡ false) × Q x)

  abbrev pub EitherFault : Bool → Fault → Type 0
  EitherFault b f = ((b ≡ true) × F f) ⊎ ((b ≡ false) × G f)

  exact_first : Exact r P F → Exact r (Either true) (EitherFault true)
  exact_first e = record {
    found = λ x is. inl (refl, e.found x is);
    again = λ x t. ⊎_elim (λ a. e.again x a.1) (λ c. absurd (true≢false c.0)) t;
    fault = λ f is. inl (refl, e.fault f is);
    only = λ f t. ⊎_elim (λ a. e.only f a.1) (λ c. absurd (true≢false c.0)) t;
  }

  exact_second : Exact s Q G → Exact s (Either false) (EitherFault false)
  exact_second e = record {
    found = λ x is. inr (refl, e.found x is);
    again = λ x t. ⊎_elim (λ a. absurd (false≢true a.0)) (λ c. e.again x c.1) t;
    fault = λ f is. inr (refl, e.fault f is);
    only = λ f t. ⊎_elim (λ a. absurd (false≢true a.0)) (λ c. e.only f c.1) t;
  }

  pub exact_if : (b : Bool) → (b ≡ true → Exact r P F) → (b ≡ false → Exact s Q G) → Exact (cond b r s) (Either b) (EitherFault b)
  exact_if true first second = exact_first (first refl)
  exact_if false first second = exact_second (second refl)

-- a reading of terms
pub exact_in_row : {X : Type 0} (r : Result X TextFault) (P : X → Type 0) (F : TextFault → Type 0) → ((x : X) → r ≡ Ok x → P x) → ((x : X) → P x → r ≡ Ok x)
    → ((g : TextFault) → r ≡ Err g → F g) → ((g : TextFault) → F g → r ≡ Err g) → Exact (in_row r) P (λ f. (g : TextFault) × F g × (f ≡ as_row_fault g))
exact_in_row (Ok a) P F found again fault only = record {
  found = λ x e. found x (ap (λ (y : _). Ok y) (ok_is a x e));
  again = λ x is. ap in_row (again x is);
  fault = λ f e. absurd (ok_no_err a f e);
  only = λ f t. ap in_row (only t.0 t.1) ∙ ap (λ (h : Fault). Err h) (sym t.2);
}
exact_in_row (Err g) P F found again fault only = record {
  found = λ x e. absurd (err_no_ok x (as_row_fault g) e);
  again = λ x is. ap in_row (again x is);
  fault = λ f e. (g, fault g refl, sym (err_is _ (as_row_fault g) f e));
  only = λ f t. ap in_row (only t.0 t.1) ∙ ap (λ (h : Fault). Err h) (sym t.2);
}

-- ---- the same, with all but the readings and tests left out

pub restated : {X : Type 0} {r : Result X Fault} {P Q : X → Type 0} {F G : Fault → Type 0} → Exact r P F → ((x : X) → P x → Q x) → ((x : X) → Q x → P x)
    → ((f : Fault) → F f → G f) → ((f : Fault) → G f → F f) → Exact r Q G
restated {r = r} {P = P} {Q = Q} {F = F} {G = G} e to back fault_to fault_back = exact_as r P Q F G e to back fault_to fault_back

pub chained : {X Y : Type 0} {r : Result X Fault} {s : X → Result Y Fault} {P : X → Type 0} {F : Fault → Type 0} {Q : X → Y → Type 0} {G : X → Fault → Type 0}
    → Exact r P F → ((x : X) → Exact (s x) (Q x) (G x)) → Exact (r >>= s) (Then s P F Q G) (ThenFault s P F Q G)
chained {r = r} {s = s} {P = P} {F = F} {Q = Q} {G = G} e next = exact_then s P F Q G r e next

pub choice : {X : Type 0} {r s : Result X Fault} {P Q : X → Type 0} {F G : Fault → Type 0} (b : Bool) → (b ≡ true → Exact r P F) → (b ≡ false → Exact s Q G)
    → Exact (cond b r s) (Either r s P Q F G b) (EitherFault r s P Q F G b)
choice {r = r} {s = s} {P = P} {Q = Q} {F = F} {G = G} b first second = exact_if r s P Q F G b first second
