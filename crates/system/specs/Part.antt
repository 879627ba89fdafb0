-- Objects of one kind in a system of several: what is said of them is said of any system that has them.
use Rattle.kind.specs.Kind.{Kind}

-- the numbers, the calls and the wishes of the kind A in a system of the kind K; and which wish a thread has there, as A sees it
pub record Part (A K : Kind) : Type 0 where
  pub num : A.Num → K.Num
  pub call : A.Call → K.Call
  pub wish : A.Wish → K.Wish
  pub seen : K.Wish → A.Wish

-- a system of one kind
abbrev pub whole : (K : Kind) → Part K K
whole K = record { num = λ n. n; call = λ k. k; wish = λ x. x; seen = λ x. x }

-- a part of a part
abbrev pub within : {A B K : Kind} → Part A B → Part B K → Part A K
within P Q = record { num = λ n. Q.num (P.num n); call = λ k. Q.call (P.call k); wish = λ x. Q.wish (P.wish x); seen = λ x. P.seen (Q.seen x) }
