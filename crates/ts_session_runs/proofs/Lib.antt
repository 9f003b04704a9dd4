mod CarrierLemmas
mod HallLemmas
mod RanLemmas
mod StartLemmas
mod TurnLemmas
