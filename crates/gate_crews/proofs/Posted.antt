-- Workers at gates, the last one first.
use Rattle.std.proofs.Common.{◌≡◌, suc, refl, sym, ap, ◌∙◌, append_assoc, arith, ℕ, List, [], ◌∷◌, ◌++◌, length}
use Rattle.std.specs.Prelude.{map, reverse}
use Rattle.std.proofs.lemmas.List.{length-map, reverse-append}
use Rattle.worker_pool.specs.declared.pool.Post.{Post}
use Rattle.gate_crews.specs.Crews.{posts_of}

module _ {G W : Type 0} where
  abbrev pub at_gate : W → G → Post G W
  at_gate worker gate = record { gate = gate; worker = worker }

  posted_more : (workers : List W) (gates : List G) (worker : W) (gate : G) → length workers ≡ length gates → posts_of (workers ++ worker ∷ []) (gates ++ gate ∷ []) ≡ posts_of workers gates ++ at_gate worker gate ∷ []
  posted_more [] [] worker gate same = refl
  posted_more [] (y ∷ gates) worker gate same = absurd (omega (arith, same))
  posted_more (x ∷ workers) [] worker gate same = absurd (omega (arith, same))
  posted_more (x ∷ workers) (y ∷ gates) worker gate same = ap (λ (l : List (Post G W)). at_gate x y ∷ l) (posted_more workers gates worker gate (omega (arith, same)))

  -- the last worker stands at the last gate, behind the others in reverse
  pub posts_one : (all : List (Post G W)) (workers rest : List W) (gates others : List G) (posts : List (Post G W)) (worker : W) (gate : G) → all ≡ posts_of workers gates ++ reverse posts → workers ≡ rest ++ worker ∷ []
      → gates ≡ others ++ gate ∷ [] → length rest ≡ length others → all ≡ posts_of rest others ++ reverse (posts ++ at_gate worker gate ∷ [])
  posts_one all workers rest gates others posts worker gate is popped taken same =
      is ∙ (λ i. posts_of (popped i) (taken i) ++ reverse posts) ∙ ap (λ (l : List (Post G W)). l ++ reverse posts) (posted_more rest others worker gate same)
      ∙ append_assoc (posts_of rest others) (at_gate worker gate ∷ []) (reverse posts) ∙ ap (λ (l : List (Post G W)). posts_of rest others ++ l) (sym (reverse-append posts (at_gate worker gate ∷ [])))

  pub posted_length : (workers : List W) (gates : List G) → length workers ≡ length gates → length (posts_of workers gates) ≡ length workers
  posted_length [] [] same = refl
  posted_length [] (y ∷ gates) same = absurd (omega (arith, same))
  posted_length (x ∷ workers) [] same = absurd (omega (arith, same))
  posted_length (x ∷ workers) (y ∷ gates) same = ap (λ (n : ℕ). suc n) (posted_length workers gates (omega (arith, same)))

  -- as many of each come back as there are posts
  pub came_back : {A : Type 0} (part : Post G W → A) (workers : List W) (gates : List G) (posts : List (Post G W)) (left : List A) → length workers ≡ length gates
      → length posts ≡ length (posts_of workers gates) → left ≡ map part posts → length left ≡ length workers
  came_back part workers gates posts left same served are = ap length are ∙ length-map posts part ∙ served ∙ posted_length workers gates same
