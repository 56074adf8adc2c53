-- What bytes decode to never says that eight wait.
use Rattle.std.proofs.Common.{◌≡◌, ℕ, Bool, true, false, cond, eqb, length, Some, None, Option, refl, subst}
use Rattle.promise.specs.Bytes.{Bytes, bind, number_in, ended}
use Rattle.promise.specs.Layout.{is_busy}
use Rattle.codec.specs.Sum.{sum_of}
use Rattle.codec.specs.Messages.{Msg, Hello, Welcome, Request, Response, Alive, hello_in, welcome_in, request_in, response_in, alive_in, kind_in, body_in, lengthed_msg_in, decode_msg}
use Rattle.asking.proofs.Busy.{NotBusy}

abbrev NotBusyIn : Option Msg → Type 0
NotBusyIn None = Unit {0}
NotBusyIn (Some m) = NotBusy m

d_cond : (b : Bool) (x y : Option Msg) → NotBusyIn x → NotBusyIn y → NotBusyIn (cond b x y)
d_cond true x y p q = p
d_cond false x y p q = q

d_ended : (m : Msg) (b : Bytes) → NotBusy m → NotBusyIn (ended m b)
d_ended m b p = d_cond (eqb (length b) 0) (Some m) None p tt

d_hello : (o : Option (ℕ × Bytes)) → NotBusyIn (bind o (λ c. ended (Hello c.0) c.1))
d_hello None = tt
d_hello (Some x) = d_ended (Hello x.0) x.1 tt

d_alive : (o : Option (ℕ × Bytes)) → NotBusyIn (bind o (λ c. ended (Alive c.0) c.1))
d_alive None = tt
d_alive (Some x) = d_ended (Alive x.0) x.1 tt

d_welcome2 : (c : ℕ) (o : Option (ℕ × Bytes)) → NotBusyIn (bind o (λ s. ended (Welcome c s.0) s.1))
d_welcome2 c None = tt
d_welcome2 c (Some x) = d_ended (Welcome c x.0) x.1 tt

d_welcome : (o : Option (ℕ × Bytes)) → NotBusyIn (bind o (λ c. bind (number_in 8 c.1) (λ s. ended (Welcome c.0 s.0) s.1)))
d_welcome None = tt
d_welcome (Some x) = d_welcome2 x.0 (number_in 8 x.1)

d_request3 : (s j : ℕ) (o : Option (ℕ × Bytes)) → NotBusyIn (bind o (λ q. Some (Request s j q.0 q.1)))
d_request3 s j None = tt
d_request3 s j (Some x) = tt

d_request2 : (s : ℕ) (o : Option (ℕ × Bytes)) → NotBusyIn (bind o (λ j. bind (number_in 8 j.1) (λ q. Some (Request s j.0 q.0 q.1))))
d_request2 s None = tt
d_request2 s (Some x) = d_request3 s x.0 (number_in 8 x.1)

d_request : (o : Option (ℕ × Bytes)) → NotBusyIn (bind o (λ s. bind (number_in 1 s.1) (λ j. bind (number_in 8 j.1) (λ q. Some (Request s.0 j.0 q.0 q.1)))))
d_request None = tt
d_request (Some x) = d_request2 x.0 (number_in 1 x.1)

d_calm : (s j q gr : ℕ) (a : Bytes) (b : Bool) → is_busy a ≡ b → NotBusyIn (cond b None (Some (Response s j q gr a)))
d_calm s j q gr a true e = tt
d_calm s j q gr a false e = e

d_response4 : (s j q : ℕ) (o : Option (ℕ × Bytes)) → NotBusyIn (bind o (λ g. cond (is_busy g.1) None (Some (Response s j q g.0 g.1))))
d_response4 s j q None = tt
d_response4 s j q (Some x) = d_calm s j q x.0 x.1 (is_busy x.1) refl

d_response3 : (s j : ℕ) (o : Option (ℕ × Bytes)) → NotBusyIn (bind o (λ q. bind (number_in 8 q.1) (λ g. cond (is_busy g.1) None (Some (Response s j q.0 g.0 g.1)))))
d_response3 s j None = tt
d_response3 s j (Some x) = d_response4 s j x.0 (number_in 8 x.1)

d_response2 : (s : ℕ) (o : Option (ℕ × Bytes)) → NotBusyIn (bind o (λ j. bind (number_in 8 j.1) (λ q. bind (number_in 8 q.1) (λ g. cond (is_busy g.1) None (Some (Response s j.0 q.0 g.0 g.1))))))
d_response2 s None = tt
d_response2 s (Some x) = d_response3 s x.0 (number_in 8 x.1)

d_response : (o : Option (ℕ × Bytes)) → NotBusyIn (bind o (λ s. bind (number_in 1 s.1) (λ j. bind (number_in 8 j.1) (λ q. bind (number_in 8 q.1) (λ g. cond (is_busy g.1) None (Some (Response s.0 j.0 q.0 g.0 g.1)))))))
d_response None = tt
d_response (Some x) = d_response2 x.0 (number_in 1 x.1)

d_kind : (k : ℕ) (b : Bytes) → NotBusyIn (kind_in k b)
d_kind k b =
    d_cond (eqb k 1) (hello_in b) _ (d_hello (number_in 8 b)) (d_cond (eqb k 2) (welcome_in b) _ (d_welcome (number_in 8 b)) (d_cond (eqb k 3) (request_in b) _ (d_request (number_in 8 b))
    (d_cond (eqb k 4) (response_in b) _ (d_response (number_in 8 b)) (d_cond (eqb k 5) (alive_in b) None (d_alive (number_in 8 b)) tt))))

d_body : (b : Bytes) → NotBusyIn (body_in b)
unfolding body_in
d_body b = go (number_in 1 b)
  where
    go : (o : Option (ℕ × Bytes)) → NotBusyIn (bind o (λ k. kind_in k.0 k.1))
    go None = tt
    go (Some x) = d_kind x.0 x.1

d_lengthed : (n : ℕ) (o : Option (ℕ × Bytes)) → NotBusyIn (bind o (λ l. cond (eqb l.0 n) (body_in l.1) None))
d_lengthed n None = tt
d_lengthed n (Some x) = d_cond (eqb x.0 n) (body_in x.1) None (d_body x.1) tt

d_message : (b : Bytes) → NotBusyIn (decode_msg b)
unfolding decode_msg
d_message b = go (number_in 8 b)
  where
    go : (o : Option (ℕ × Bytes)) → NotBusyIn (bind o (λ h. cond (eqb h.0 (sum_of h.1)) (lengthed_msg_in (length b) h.1) None))
    go None = tt
    go (Some x) = d_cond (eqb x.0 (sum_of x.1)) (lengthed_msg_in (length b) x.1) None (d_lengthed (length b) (number_in 4 x.1)) tt

pub decoded_not_busy : (b : Bytes) (m : Msg) → decode_msg b ≡ Some m → NotBusy m
decoded_not_busy b m e = subst (λ o. NotBusyIn o) e (d_message b)
