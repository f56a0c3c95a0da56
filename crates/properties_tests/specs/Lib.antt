pub mod LastNumber
