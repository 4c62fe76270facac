mod TextLemmas
mod PiecesLemmas
mod LayerLemmas
mod PlanLemmas
