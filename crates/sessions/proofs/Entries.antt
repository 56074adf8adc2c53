-- One desk's entry is replaced: what is known of all then.
use Rattle.std.proofs.Common.{◌≡◌, ℕ, ◌<◌, Bool, true, false, cond, List, Some, None, Option, map, length, get_or, set, refl, sym, ap, ◌∙◌, arith}
use Rattle.std.proofs.lemmas.List.{get_or-map, map-set}
use Rattle.std.proofs.Math.Seq.{map-set_same}
use Rattle.std.specs.Option.{option_map}
use Rattle.asking.specs.House as h
use Rattle.ids.specs.declared.Clock.{Clock}
use Rattle.ids.specs.declared.Session.{Session}
use Rattle.sessions.specs.declared.peer.Peer.{Peer}
use Rattle.sessions.specs.declared.sessions.Entry.{Entry}
use Rattle.sessions.specs.View.{number, peer_view}
use Rattle.sessions.specs.Peers.{session_of, offering, promoted}
use Rattle.sessions.specs.Known.{Known, peer_in, hearing_at, setting_peer, offering_to, greeted, is_taken_up, taking_up}
use Rattle.sessions.specs.Views.{peer_at, heard_at}

abbrev known_of : ℕ → List Entry → Known
known_of n es = record { next = n; peers = map peer_at es; heard = map heard_at es }

pub entry_heard : (n : ℕ) (es : List Entry) (i j : ℕ) (t : Clock) (e : Entry) → i ≡ j →
    known_of n (set es i (record { peer = (get_or es i e).peer; heard = t })) ≡ hearing_at j t.0 (known_of n es)
entry_heard n es i j t e at =
    let y : Entry = record { peer = (get_or es i e).peer; heard = t } in
    (λ z. record { next = n; peers = map-set_same peer_at es i y e refl z; heard = map-set heard_at es i y z }) ∙ ap (λ (k : ℕ). hearing_at k t.0 (known_of n es)) at

-- desk j's entry, read from the list es at i
module _ (n : ℕ) (old es : List Entry) (i j : ℕ) (e : Entry) (same : es ≡ old) (at : i ≡ j) (inside : i < length old) where
  pub entry_peer : peer_at (get_or es i e) ≡ peer_in j (known_of n old)
  entry_peer =
      let within : i < length es = omega (arith, ap length same) in
      sym (get_or-map peer_at es i e h.nobody within) ∙ (λ z. peer_in (at z) (known_of n (same z)))

  -- the sessions of the desk are changed by f, and m is the next session then
  pub entry_changed : (f : h.Peer → h.Peer) (m : ℕ) (p : Peer) → peer_view p ≡ f (peer_at (get_or es i e)) →
      known_of m (set es i (record { peer = p; heard = (get_or es i e).heard })) ≡ record { next = m; peers = set (map peer_at old) j (f (peer_in j (known_of n old))); heard = map heard_at old }
  entry_changed f m p is =
      let y : Entry = record { peer = p; heard = (get_or es i e).heard } in
      let view : peer_view p ≡ f (peer_in j (known_of n old)) = is ∙ ap f entry_peer in
      (λ z. record { next = m; peers = map-set peer_at es i y z; heard = map-set_same heard_at es i y e refl z }) ∙
      (λ z. record { next = m; peers = set (map peer_at (same z)) (at z) (view z); heard = map heard_at (same z) })

  offered_by : (a b : Bool) (x y : ℕ) (k z : Known) → None ≡ cond a (Some x) (cond b (Some y) None) → z ≡ cond a k (cond b k z)
  offered_by true b x y k z absent = cc
  offered_by false true x y k z absent = cc
  offered_by false false x y k z absent = refl

  -- a nonce to which none_given session was given is offered one
  pub entry_offered : (c m : ℕ) (p : Peer) (r : Option Session) → r ≡ None → option_map number r ≡ session_of c (peer_at (get_or es i e)) → m ≡ h.next64 n →
      peer_view p ≡ offering c n (peer_at (get_or es i e)) → known_of m (set es i (record { peer = p; heard = (get_or es i e).heard })) ≡ greeted j c (known_of n old)
  entry_offered c m p r none given next is =
      let k : Known = known_of n old in
      let none_given : None ≡ session_of c (peer_in j k) = ap (option_map number) (sym none) ∙ (given ∙ ap (λ (q : h.Peer). session_of c q) entry_peer) in
      entry_changed (λ (q : h.Peer). offering c n q) m p is ∙
      ((λ z. record { next = next z; peers = set k.peers j (offering c n (peer_in j k)); heard = k.heard }) ∙ offered_by _ _ _ _ k (offering_to j c k) none_given)

  -- an offered session becomes the current one
  pub entry_taken_up : (s : ℕ) (p : Peer) (b : Bool) → b ≡ true → b ≡ h.is_session s (peer_at (get_or es i e)).offered_session → peer_view p ≡ promoted (peer_at (get_or es i e)) →
      known_of n (set es i (record { peer = p; heard = (get_or es i e).heard })) ≡ taking_up j s (known_of n old)
  entry_taken_up s p b taken_up offered is =
      let k : Known = known_of n old in
      let taken : true ≡ is_taken_up j s k = sym taken_up ∙ (offered ∙ ap (λ (q : h.Peer). h.is_session s q.offered_session) entry_peer) in
      entry_changed (λ (q : h.Peer). promoted q) n p is ∙ ap (λ (v : Bool). cond v (setting_peer j (promoted (peer_in j k)) k) k) taken
